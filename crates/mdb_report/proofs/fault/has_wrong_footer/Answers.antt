use Rattle.std.proofs.Common.{◌≡◌, subst, true, Bool, List, sym, ap, refl, get_or, ◌∙◌, rules}
use Rattle.std.specs.Prelude.{Contains}
use Rattle.std.specs.Bool.{Decides}
use Rattle.shard_bytes.specs.declared.check.Finding.{Finding}
use Rattle.shard_bytes.specs.declared.check.Finding.TheVariants.{Unsupported, TooShort, Cut, Refused, OutOfOrder, Malformed, Differs, Reordered, Size}
use Rattle.shard_bytes.specs.declared.check.Part.TheVariants.{Footer}
use Rattle.shard_bytes.specs.contracts.check.FindingPartialEq as equality
use Rattle.shard_bytes.specs.Checking.{IsFinding}
use Rattle.std.proofs.lemmas.List.Elements.{All-contains}
use Rattle.std.proofs.lemmas.List.Folds.{Any-from_list_any, list_any_at}
use Rattle.std.specs.List.{list_any}
use Rattle.mdb_report.proofs.fault.has_wrong_footer.Goals as goal

-- a finding is equal to that of the footer exactly if the derived test says so
decides : (y : Finding) → Decides ((equality.TheImpl.ghosts).eq y (Differs Footer)) (y ≡ Differs Footer)
decides (Unsupported reason) = (λ e. search rules, λ e. search rules)
decides TooShort = (λ e. search rules, λ e. search rules)
decides (Cut s) = (λ e. search rules, λ e. search rules)
decides (Refused s) = (λ e. search rules, λ e. search rules)
decides (OutOfOrder s n) = (λ e. search rules, λ e. search rules)
decides (Malformed s n) = (λ e. search rules, λ e. search rules)
decides (Differs Footer) = (λ e. refl, λ e. refl)
decides (Differs p) = (λ e. search rules, λ e. search rules)
decides Reordered = (λ e. search rules, λ e. search rules)
decides (Size n) = (λ e. search rules, λ e. search rules)

found_there : (fs : List Finding) → list_any (λ y. (equality.TheImpl.ghosts).eq y (Differs Footer)) fs ≡ true → Contains fs (Differs Footer)
found_there fs e =
    let (k, f, below, at, is) = Any-from_list_any (λ y. (equality.TheImpl.ghosts).eq y (Differs Footer)) fs e in
    subst (λ y. Contains fs y) ((decides f).0 is) (k, below, at)

pub returns-in-Ok : goal.returns-in-Ok
returns-in-Ok c =
    let is_footer : Finding → Bool = λ y. (equality.TheImpl.ghosts).eq y (Differs Footer) in
    let fs = c.in-Ok.findings.items in
    let result_is : c.contains.result ≡ list_any is_footer fs = c.contains.ensures.value ∙ ap (list_any is_footer) c.as_slice.ensures.value in (
      λ found. All-contains (IsFinding c.args.bytes.now) fs (Differs Footer) c.in-Ok.ensures.each (found_there fs (sym result_is ∙ found)),
      λ true_of. (let (k, below, at) = c.in-Ok.ensures.all (Differs Footer) true_of in
          result_is ∙ list_any_at is_footer fs k (Differs Footer) below ((decides (get_or fs k (Differs Footer))).1 at)),
    )
