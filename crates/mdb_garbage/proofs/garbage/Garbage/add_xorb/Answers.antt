use Rattle.std.proofs.Common.{◌++◌, ◌∷◌, [], sym, subst, ◌∙◌, true≢false}
use Rattle.mdb_garbage.specs.Garbage.{HasXorb}
use Rattle.mdb_garbage.specs.CollectedRanges.{Collects, InRange}
use Rattle.mdb_garbage.proofs.Seen.{hashes_with, hashes_without, found_with, found_without}
use Rattle.mdb_garbage.proofs.garbage.Garbage.add_xorb.Goals as goal

pub returns-then-not-has-clause-seen : goal.returns-then-not-has-clause-seen
returns-then-not-has-clause-seen c = λ files xorbs seen.
    let outside : ¬ InRange c.args.self.now.range c.args.xorb.now.metadata.xorb_hash = λ inside. true≢false (sym inside ∙ sym c.has.ensures ∙ c.if-not-has.true) in
    record {
      segments = seen.segments;
      hashes = hashes_without c.args.self.now.range files xorbs c.args.xorb.now c.args.self.now.xorbs.items seen.hashes outside;
      found = found_without c.args.self.now.range files xorbs c.args.xorb.now c.args.self.now.found.items seen.found outside;
    }

pub returns-clause-seen : goal.returns-clause-seen
returns-clause-seen c = λ files xorbs seen.
    let range = c.args.self.now.range in
    let xorb = c.args.xorb.now in
    let inside : InRange c.args.self.now.range c.args.xorb.now.metadata.xorb_hash = sym c.has.ensures ∙ c.if-not-has.false in
    record {
      segments = seen.segments;
      hashes = subst (Collects range (λ h. h) (HasXorb (xorbs ++ xorb ∷ []))) (sym c.in_ok-push.ensures.items) (hashes_with range files xorbs xorb c.args.self.now.xorbs.items seen.hashes);
      found = found_with range files xorbs xorb c.args.self.now.found.items seen.found c.args.self.now.segments.items.items c.naming_hash.result.now seen.segments inside c.naming_hash.ensures _ c.in_ok-add_xorb_misfits.ensures;
    }
