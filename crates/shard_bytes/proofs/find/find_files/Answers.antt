use Rattle.std.proofs.Common.{◌≡◌, inr, ℕ, ◌+◌, ◌<◌, List, [], ◌∷◌, ◌++◌, length, get_or, take, sym, subst}
use Rattle.std.specs.List.{AllZip, Any}
use Rattle.std.proofs.lemmas.List.{take_more, get_or_default}
use Rattle.std.proofs.lemmas.Result.{err_from_is_err_and}
use Rattle.std.proofs.lemmas.Slice.Zip.{all_zipped_more}
use Rattle.shard_bytes.specs.Finding.{AnswersLookup, RefusesLookup}
use Rattle.shard_bytes.proofs.find.find_files.Goals as goal

-- one item more of each list
one_more : {A B : Type 0} (R : A → B → Type 0) (xs : List A) (ys more : List B) (i : ℕ) (d : A) (y : B) → i < length xs → AllZip R (take i xs) ys → R (get_or xs i d) y → more ≡ ys ++ y ∷ []
    → AllZip R (take (i + 1) xs) more
one_more R xs ys more i d y below before one is =
    subst (AllZip R (take (i + 1) xs)) (sym is)
    (subst (λ front. AllZip R front (ys ++ y ∷ [])) (sym (take_more xs i d below)) (all_zipped_more R (take i xs) ys (get_or xs i d) y before one))

pub loop-hash-preserved : goal.loop-hash-preserved
loop-hash-preserved c =
    one_more (AnswersLookup c.args.bytes.now) c.args.hashes.now c.loop-hash.found.items c.push.new.self.items c.loop-hash.hash-index _ c.in_ok-find_file.field-0 c.loop-hash-test.true c.loop-hash.invariant
    c.in_ok-find_file.ensures c.in_ok-push.ensures.items

any_at : {A : Type 0} (P : A → Type 0) (xs : List A) (i : ℕ) (d : A) → i < length xs → P (get_or xs i d) → Any P xs
any_at P xs i d below holds = (i, get_or xs i d, below, get_or_default xs i (get_or xs i d) d below, holds)

pub returns-in_err-find_file : goal.returns-in_err-find_file
returns-in_err-find_file c =
    let p = err_from_is_err_and c.from_residual-in_err-find_file.result c.from_residual-in_err-find_file.ensures.1 in
    rw (p.1, p.2)
    (inr (any_at (λ hash. RefusesLookup c.args.bytes.now hash c.in_err-find_file.field-0.0) c.args.hashes.now c.loop-hash.hash-index _ c.loop-hash-test.true c.in_err-find_file.ensures))
