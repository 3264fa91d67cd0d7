use Rattle.std.proofs.Common.{sym, refl}
use Rattle.mdb_report.proofs.PageBytes.{size_of}
use Rattle.mdb_report.proofs.paged_source.PagedSourceShardSource.length.Goals as goal

pub returns : goal.returns
returns g c = (sym (size_of g.U.Unread.bytes c.args.self.now.pages.now), refl)
