use Rattle.std.proofs.Common.{◌↔◌, IsTrue, Contains, sym, subst}
use Rattle.std.specs.List.Sorted.{IsSorted}
use Rattle.xet_base.specs.Hash.{hash_cmp}
use Rattle.xet_base.proofs.Searching.{search_is_in_range}
use Rattle.xet_base.proofs.sorted_hashes.SortedHashes.contains.Goals as goal

pub returns : goal.returns
returns c =
    let hash = c.args.hash.now in
    let all = c.as_slice.result.now in
    let sorted = subst (IsSorted hash_cmp) (sym c.as_slice.ensures.value) c.args.self.now.sorted in
    let finds = search_is_in_range hash all c.binary_search.result sorted c.binary_search.ensures.bound c.binary_search.ensures.position in
    subst (λ hashes. IsTrue c.is_ok.result ↔ Contains hashes hash) c.as_slice.ensures.value
    (subst (λ found. IsTrue found ↔ Contains all hash) (sym c.is_ok.ensures.value) finds)
