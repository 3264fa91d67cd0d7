-- Copying a shard record by record: keyed exports.

pub mod KeyedExport
