use Rattle.std.proofs.Common.{◌≡◌, inl, inr, ap, ◌∙◌, subst}
use Rattle.std.proofs.lemmas.Result.{err_from_is_err_and}
use Rattle.xet_base.specs.Source.{Source}
use Rattle.xet_shards.specs.Ends.Ends.{HasHeaderAndFooter}
use Rattle.xet_core_structures.proofs.TwoShards.InMemory.{not_loaded, bytes_united, bytes_refused}
use Rattle.xet_core_structures.proofs.set_operations.unite_bytes.Goals as goal

pub returns-in_err-s2 : goal.returns-in_err-s2
returns-in_err-s2 c =
    let x : c.new-r1.result.bytes.now ≡ c.args.first.now = ap (λ (s : Source). s.bytes) c.new-r1.ensures in
    let y : c.new-r2.result.bytes.now ≡ c.args.second.now = ap (λ (s : Source). s.bytes) c.new-r2.ensures in
    let p = err_from_is_err_and c.from_residual-in_err-s2.result c.from_residual-in_err-s2.ensures.1 in
    rw (p.1, p.2) (inr (inl (
      c.in_ok-s1.s1,
      subst (λ bytes. HasHeaderAndFooter bytes c.in_ok-s1.s1) x c.in_ok-s1.ensures.read.ends,
      not_loaded c.args.second.now c.new-r2.result c.load_from_reader-2.new.source _ y c.in_err-s2.ensures.read,
    )))

pub returns-in-Ok : goal.returns-in-Ok
returns-in-Ok c =
    let x : c.new-r1.result.bytes.now ≡ c.args.first.now = ap (λ (s : Source). s.bytes) c.new-r1.ensures in
    let y : c.new-r2.result.bytes.now ≡ c.args.second.now = ap (λ (s : Source). s.bytes) c.new-r2.ensures in
    bytes_united c.args.first.now c.args.second.now c.load_from_reader.new.source.bytes.now c.load_from_reader-2.new.source.bytes.now c.in_ok-s1.s1 c.in_ok-s2.s2
    (c.in_ok-s1.ensures.read.bytes ∙ x) (c.in_ok-s2.ensures.read.bytes ∙ y)
    (subst (λ bytes. HasHeaderAndFooter bytes c.in_ok-s1.s1) x c.in_ok-s1.ensures.read.ends) (subst (λ bytes. HasHeaderAndFooter bytes c.in_ok-s2.s2) y c.in_ok-s2.ensures.read.ends)
    c.new-bytes.result.items c.operate.new.out.items c.in-Ok.field-0 c.new-bytes.ensures.items c.in-Ok.ensures.outcome.written

pub returns-in-Err-Input : goal.returns-in-Err-Input
returns-in-Err-Input c =
    let x : c.new-r1.result.bytes.now ≡ c.args.first.now = ap (λ (s : Source). s.bytes) c.new-r1.ensures in
    let y : c.new-r2.result.bytes.now ≡ c.args.second.now = ap (λ (s : Source). s.bytes) c.new-r2.ensures in
    bytes_refused c.args.first.now c.args.second.now c.load_from_reader.new.source.bytes.now c.load_from_reader-2.new.source.bytes.now c.in_ok-s1.s1 c.in_ok-s2.s2
    (c.in_ok-s1.ensures.read.bytes ∙ x) (c.in_ok-s2.ensures.read.bytes ∙ y)
    (subst (λ bytes. HasHeaderAndFooter bytes c.in_ok-s1.s1) x c.in_ok-s1.ensures.read.ends) (subst (λ bytes. HasHeaderAndFooter bytes c.in_ok-s2.s2) y c.in_ok-s2.ensures.read.ends)
    c.load_from_reader.new.source c.operate.new.r1 c.load_from_reader-2.new.source c.operate.new.r2 c.in-Err-Input.error
    (rw c.in-Err-Input.field-0-is at c.in-Err-Input.ensures.outcome.written)
