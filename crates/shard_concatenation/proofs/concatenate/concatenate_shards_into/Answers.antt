use Rattle.std.proofs.Common.{◌≡◌, Bor, List, ℕ, map, refl}
use Rattle.std.proofs.lemmas.Result.{IfOk-weaker}
use Rattle.xet_base.specs.KeyedHash.{no_key}
use Rattle.shard_concatenation.specs.Concatenation.{parts_layout, latest_of, IsConcatenation, RefusesConcatenation}
use Rattle.placed_shards.specs.Filling.{Fills}
use Rattle.shard_concatenation.proofs.PartFilling.{fills_known}
use Rattle.shard_concatenation.proofs.Concatenation.{parts_of, concatenated_if, consecutive_parts}
use Rattle.shard_concatenation.proofs.concatenate.concatenate_shards_into.Goals as goal

pub returns-clause-parts : goal.returns-clause-parts
returns-clause-parts c = λ key parts fit are.
    let bytes = parts_layout key parts in
    let fills = c.fill_parts.ensures.parts key parts fit are in
    fills_known (λ bs. bs ≡ bytes) (RefusesConcatenation (map (λ (x : Bor (List ℕ)). x.now) c.args.shards.now)) bytes c.args.out.now c.fill_parts.new.out c.fill_parts.result
    (IfOk-weaker c.fill_parts.result (Fills bytes c.args.out.now c.fill_parts.new.out) (λ _. bytes ≡ bytes) (λ _ _. refl) fills) fills c.fill_parts.ensures.causes

pub returns-clause-shard : goal.returns-clause-shard
returns-clause-shard c = λ written is.
    let shards : List (List ℕ) = map (λ (x : Bor (List ℕ)). x.now) c.args.shards.now in
    let parts = parts_of written shards is in
    let version = latest_of written shards is in
    let bytes = parts_layout no_key parts.parts in
    fills_known (IsConcatenation version written) (RefusesConcatenation shards) bytes c.args.out.now c.fill_parts.new.out c.fill_parts.result
    (concatenated_if written shards is parts c.fill_parts.result (c.fill_parts.ensures.order no_key parts.parts parts.fit parts.are parts.ascend) (c.fill_parts.ensures.rows no_key parts.parts parts.fit parts.are))
    (c.fill_parts.ensures.parts no_key parts.parts parts.fit parts.are) c.fill_parts.ensures.causes

pub returns-clause-shard_succeeds : goal.returns-clause-shard_succeeds
returns-clause-shard_succeeds c = λ written all shard row is some.
    let parts = parts_of written (map (λ (x : Bor (List ℕ)). x.now) c.args.shards.now) is in
    c.fill_parts.ensures.succeeds no_key parts.parts (consecutive_parts written c.args.shards.now all shard row is parts some) parts.are
