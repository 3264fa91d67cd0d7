-- What byte strings that hold shards which agree pairwise, under one key, are merged to: the records of their join in the
-- range.
use Rattle.std.proofs.Common.{◌≡◌, inl, inr, ℕ, ◌<◌, true, false, true≢false, List, [], ◌∷◌, ◌++◌, length, map, Ok, Err, refl, sym, ap, ◌∙◌, subst, arith, length-append, ◌≤◌, ◌/◌, Bor, get_or, take, drop}
use Rattle.std.specs.Prelude.{All, Contains, MatchResult}
use Rattle.std.specs.List.{AllZip}
use Rattle.std.specs.FinMap.{FinMap, get, entries, values, get-entries}
use Rattle.std.specs.declared.result.Result.{Result}
use Rattle.std.proofs.lemmas.List.{length-map, length-take-le, map-append, take-append-drop}
use Rattle.std.proofs.lemmas.List.Elements.{All-drop}
use Rattle.xet_base.specs.declared.error.CoreError.{CoreError}
use Rattle.xet_base.specs.declared.error.CoreError.TheVariants.{OutOfMemory}
use Rattle.xet_base.specs.declared.merklehash.DataHash.{DataHash}
use Rattle.xet_base.specs.Hash.{hash_cmp}
use Rattle.xet_records.specs.RecordKind.{RecordKind}
use Rattle.xet_records.specs.FileRecord.{file_records}
use Rattle.xet_records.specs.XorbRecord.{xorb_records}
use Rattle.xet_shards.specs.Content.Joining.{entry}
use Rattle.xet_shards.specs.Content.Joins.{IsJoinOf, AgreePairwise}
use Rattle.xet_shards.specs.Content.SetOperations.{IsUnion, ShardsAgree, RowsFitU32}
use Rattle.xet_shards.specs.Content.Shard.{Shard, IsShard}
use Rattle.xet_shards.specs.Write.Section.{total_rows}
use Rattle.xet_shards.specs.declared.shard_format.ends.options.LayoutOptions.{LayoutOptions}
use Rattle.xet_shards.proofs.Content.AgreeingJoins.{joins_exist, lists_agree, union-of_joins, agree_left, agree_right, fewer_if_more, union_is_shard}
use Rattle.xet_shards.proofs.Content.Joins.{join-unique, join-one, follows_parts}
use Rattle.xet_shards.proofs.Content.Overlays.{union_unique}
use Rattle.xet_shards.proofs.Content.Unions.{same_shard}
use Rattle.xet_shards.proofs.Read.Zipped.{zipped_parts}
use Rattle.xet_shards.proofs.Write.Sections.{files_fit, xorbs_fit}
use Rattle.xet_shards.proofs.Write.WithOptions.{files_ascend, xorbs_ascend}
use Rattle.std.proofs.lemmas.List.Elements.{Contains-append_left, Contains-append_right}
use Rattle.xet_core_structures.specs.Records.ByteUnion.{IsEitherFile, IsEitherXorb, IsByteUnion}
use Rattle.xet_core_structures.specs.Records.RecordPairs.{key_of_record, by_hash, with_hash}
use Rattle.xet_core_structures.specs.Steps.ByteResultsSteps.{Records}
use Rattle.xet_core_structures.specs.Trees.MergeTrees.{MergeRefused}
use Rattle.xet_core_structures.specs.TwoShards.ByteResults.{keyed_options}
use Rattle.xet_core_structures.proofs.Records.ByteUnions.{byte_union_is_union, union_is_byte_union}
use Rattle.xet_core_structures.proofs.Records.ListMaps.{values-list_map, get-list_map, combined_maps, shard_of}
use Rattle.placed_shards.specs.declared.range.HashRange.{HashRange}
use Rattle.placed_shards.specs.declared.selection.Selection.{Selection}
use Rattle.placed_shards.specs.declared.placed_shard.PlacedShard.{PlacedShard}
use Rattle.placed_shards.specs.Content.{Content, content, AscendBoth, content_within}
use Rattle.placed_shards.specs.MergedLists.{AreHalves, IsMergeOf, MergeRefusal, HoldsSelected, IsMergeOfList, shard_content}
use Rattle.placed_shards.specs.MergedLists.IsMergeOf.{of_one, of_halves}
use Rattle.placed_shards.specs.MergedLists.MergeRefusal.{no_memory, of_none, not_read, of_first, of_second, of_union}
use Rattle.placed_shards.specs.Opening.{Opens}
use Rattle.placed_shards.specs.Selections.{OpensSelected, OpensWithin, SelectedRefusal}
use Rattle.placed_shards.specs.Steps.MergingSteps.{IsMerged, NotMerged}
use Rattle.placed_shards.specs.Unions.{IsUnionOf, UnionRefusal}
use Rattle.placed_shards.proofs.Selections.{opens_selected_once, selected, selected_well}

-- the records of a shard, under their hashes
module _ {H R : Type 0} (K : RecordKind H R) where
  by_values : (es : List (DataHash × R)) → All (λ e. e.0 ≡ key_of_record K e.1) es → by_hash K (map (λ e. e.1) es) ≡ es
  by_values [] all = refl
  by_values (e ∷ es) all = λ i. (sym (all 0 e (omega arith)) i, e.1) ∷ by_values es (All-drop (λ (d : DataHash × R). d.0 ≡ key_of_record K d.1) 1 (e ∷ es) all) i

  pub values_under : (m : FinMap hash_cmp R) → All (λ e. e.0 ≡ key_of_record K e.1) (entries m) → (q : DataHash) → with_hash K (values m) q ≡ get m q
  values_under m keyed q = ap (λ (es : List (DataHash × R)). entry es q) (by_values (entries m) keyed) ∙ sym (get-entries m q)

-- both halves of a list of two or more have something
first_some : (inputs firsts seconds : List (List ℕ)) → AreHalves inputs firsts seconds → 0 < length firsts
first_some inputs firsts seconds halves = omega (arith, halves.some, halves.half)

second_some : (inputs firsts seconds : List (List ℕ)) → AreHalves inputs firsts seconds → 0 < length seconds
second_some inputs firsts seconds halves = omega (arith, halves.some, halves.half, ap length halves.are, length-append firsts seconds)

-- the shard of the records of both lists
abbrev records_of : Content → Records
records_of c = record { files = c.files; xorbs = c.xorbs }

abbrev pub shard_in : Content → Shard
shard_in c = shard_of (records_of c)

-- the maps of the records of a union
module _ (c d made : Content) (first : AscendBoth c) (second : AscendBoth d) (union : IsUnionOf c d made) where
  pub made_ascends : AscendBoth made
  made_ascends = record { files = union.files.combined.ascends; xorbs = union.xorbs.combined.ascends }

  pub as_byte_union : IsByteUnion (shard_in c) (shard_in d) (shard_in made)
  as_byte_union = record {
    files = combined_maps file_records IsEitherFile c.files d.files made.files first.files second.files union.files.combined;
    xorbs = combined_maps xorb_records IsEitherXorb c.xorbs d.xorbs made.xorbs first.xorbs second.xorbs union.xorbs.combined;
  }

pub few_rows : (c d made : Content) → IsUnionOf c d made → RowsFitU32 (shard_in made)
few_rows c d made union = record {
  files = subst (λ rs. total_rows file_records rs ≤ 4294967295) (sym (values-list_map file_records made.files union.files.combined.ascends)) union.files.rows;
  xorbs = subst (λ rs. total_rows xorb_records rs ≤ 4294967295) (sym (values-list_map xorb_records made.xorbs union.xorbs.combined.ascends)) union.xorbs.rows;
}

-- two shards that agree have a union if its rows fit
module _ (c d : Content) (whole : Shard) (first : AscendBoth c) (second : AscendBoth d) (c_is : IsShard (shard_in c)) (d_is : IsShard (shard_in d)) (agree : ShardsAgree (shard_in c) (shard_in d))
    (union : IsUnion (shard_in c) (shard_in d) whole) (same : c.options.key ≡ d.options.key) where
  pub has_union : RowsFitU32 whole → IsUnionOf c d (shard_content c.options.key whole)
  has_union few =
      let shard = union_is_shard (shard_in c) (shard_in d) whole c_is d_is agree union few in
      let made = union_is_byte_union (shard_in c) (shard_in d) whole c_is d_is agree union in
      record {
        same_key = same;
        files = record {
          combined = record {
            ascends = files_ascend whole shard;
            each = λ q. subst (λ p. p)
                (λ i. IsEitherFile (get-list_map file_records c.files first.files q i) (get-list_map file_records d.files second.files q i) (sym (values_under file_records whole.files shard.files.keyed q) i))
                (made.files q);
            stored = (files_fit whole shard).stored;
          };
          rows = few.files;
        };
        xorbs = record {
          combined = record {
            ascends = xorbs_ascend whole shard;
            each = λ q. subst (λ p. p)
                (λ i. IsEitherXorb (get-list_map xorb_records c.xorbs first.xorbs q i) (get-list_map xorb_records d.xorbs second.xorbs q i) (sym (values_under xorb_records whole.xorbs shard.xorbs.keyed q) i))
                (made.xorbs q);
            stored = (xorbs_fit whole shard).stored;
          };
          rows = few.xorbs;
        };
        options_are = refl;
      }

-- records whose hashes ascend, those of this shard, with all tables, a key, creation 0 and no expiry
pub record IsContentOf (key : DataHash) (s : Shard) (c : Content) : Type 0 where
  pub shard : IsShard s
  pub ascend : AscendBoth c
  pub is : shard_in c ≡ s
  pub options_are : c.options ≡ keyed_options key

module _ (key : DataHash) where
  pub content_is : (s : Shard) (c : Content) → IsContentOf key s c → c ≡ shard_content key s
  content_is s c found =
      let files = sym (values-list_map file_records c.files found.ascend.files) ∙ ap (λ (t : Shard). values t.files) found.is in
      let xorbs = sym (values-list_map xorb_records c.xorbs found.ascend.xorbs) ∙ ap (λ (t : Shard). values t.xorbs) found.is in
      λ i. record { files = files i; xorbs = xorbs i; options = found.options_are i }

  -- the shard of the records of a shard
  pub shard_back : (t : Shard) → IsShard t → shard_in (shard_content key t) ≡ t
  shard_back t shard =
      same_shard (shard_in (shard_content key t)) t
      (λ q. get-list_map file_records (values t.files) (files_ascend t shard) q ∙ values_under file_records t.files shard.files.keyed q)
      (λ q. get-list_map xorb_records (values t.xorbs) (xorbs_ascend t shard) q ∙ values_under xorb_records t.xorbs shard.xorbs.keyed q)

  -- one input
  module _ (selection : Selection) where
    one_content : (t : Shard) (x : List ℕ) (c : Content) → HoldsSelected selection key x t → OpensSelected selection x c → IsContentOf key t c
    one_content t x c held opens =
        let is : c ≡ shard_content key t = opens_selected_once selection x c (shard_content key t) opens held.opens in
        record {
          shard = held.shard;
          ascend = (selected selection x c opens).ascend;
          is = ap shard_in is ∙ shard_back t held.shard;
          options_are = ap (λ (d : Content). d.options) is;
        }

    one_read : (t : Shard) (x : List ℕ) (e : CoreError) → HoldsSelected selection key x t → SelectedRefusal selection x e → e ≡ OutOfMemory
    one_read t x e held refusal = selected_well selection x (shard_content key t) e held.opens refusal

  -- two halves
  module _ (a b whole : Shard) (c d : Content) (first : IsContentOf key a c) (second : IsContentOf key b d) (agree : ShardsAgree a b) (union : IsUnion a b whole) where
    united_content : (made : Content) → IsUnionOf c d made → IsContentOf key whole made
    united_content made unites =
        let moved = subst (λ p. p) (λ i. IsByteUnion (first.is i) (second.is i) (shard_in made)) (as_byte_union c d made first.ascend second.ascend unites) in
        let same = union_unique a b (shard_in made) whole (byte_union_is_union a b (shard_in made) first.shard second.shard agree moved) union in
        record {
          shard = union_is_shard a b whole first.shard second.shard agree union (subst RowsFitU32 same (few_rows c d made unites));
          ascend = made_ascends c d made first.ascend second.ascend unites;
          is = same;
          options_are = unites.options_are ∙ ap (λ o. keyed_options o.key) first.options_are;
        }

    united_refused : (e : CoreError) → UnionRefusal c d e → MergeRefused whole e
    united_refused e (inl none) = inl none
    united_refused e (inr (inl (invalid, differ))) = absurd (differ (ap (λ o. o.key) first.options_are ∙ sym (ap (λ o. o.key) second.options_are)))
    united_refused e (inr (inr (invalid, same, never))) = inr (
      invalid,
      λ few. never _ (has_union c d whole first.ascend second.ascend (subst IsShard (sym first.is) first.shard) (subst IsShard (sym second.is) second.shard)
          (subst (λ p. p) (λ i. ShardsAgree (sym first.is i) (sym second.is i)) agree) (subst (λ p. p) (λ i. IsUnion (sym first.is i) (sym second.is i) whole) union) same few),
    )

  -- lists of shards, each two of which agree
  module _ (selection : Selection) where
    abbrev AreParts : List (List ℕ) → List Shard → Shard → Type 0
    AreParts = IsMergeOfList selection key

    -- both halves of such a list
    record BothParts (firsts seconds : List (List ℕ)) (whole : Shard) : Type 0 where
      ones : List Shard
      others : List Shard
      a : Shard
      b : Shard
      first : AreParts firsts ones a
      second : AreParts seconds others b
      agree : ShardsAgree a b
      union : IsUnion a b whole
      fewer_1 : RowsFitU32 whole → RowsFitU32 a
      fewer_2 : RowsFitU32 whole → RowsFitU32 b

    both_parts : (inputs firsts seconds : List (List ℕ)) (parts : List Shard) (whole : Shard) → AreHalves inputs firsts seconds → AreParts inputs parts whole → BothParts firsts seconds whole
    both_parts inputs firsts seconds parts whole halves are =
        let cut = zipped_parts (HoldsSelected selection key) firsts seconds parts (subst (λ l. AllZip (HoldsSelected selection key) l parts) halves.are are.are_held) in
        let xs = cut.0 in
        let ys = cut.1 in
        let agree = subst (λ ss. AgreePairwise (Contains ss)) (sym cut.2) are.agree in
        let is_join = subst (λ ss. IsJoinOf (Contains ss) whole) (sym cut.2) are.is_join in
        let agree_1 = agree_left xs ys agree in
        let agree_2 = agree_right xs ys agree in
        let one = joins_exist xs agree_1 in
        let other = joins_exist ys agree_2 in
        record {
          ones = xs;
          others = ys;
          a = one.0;
          b = other.0;
          first = record { some = first_some inputs firsts seconds halves; are_held = cut.3; agree = agree_1; is_join = one.1 };
          second = record { some = second_some inputs firsts seconds halves; are_held = cut.4; agree = agree_2; is_join = other.1 };
          agree = lists_agree xs ys one.0 other.0 one.1 other.1 agree;
          union = union-of_joins xs ys one.0 other.0 one.1 other.1 agree whole is_join;
          fewer_1 = fewer_if_more (Contains xs) (Contains (xs ++ ys)) one.0 whole one.1 is_join (λ s. Contains-append_left xs ys s);
          fewer_2 = fewer_if_more (Contains ys) (Contains (xs ++ ys)) other.0 whole other.1 is_join (λ s. Contains-append_right xs ys s);
        }

    -- a list of one
    only_part : (x : List ℕ) (parts : List Shard) (join : Shard) → AreParts (x ∷ []) parts join → HoldsSelected selection key x join
    only_part x [] join are = absurd are.are_held
    only_part x (t ∷ u ∷ us) join are = absurd are.are_held.1
    only_part x (t ∷ []) join are =
        subst (HoldsSelected selection key x) (join-unique (Contains (t ∷ [])) t join (join-one t (follows_parts t are.are_held.0.shard)) are.is_join) are.are_held.0

    pub merge_found : (inputs : List (List ℕ)) (made : Content) → IsMergeOf selection inputs made → (parts : List Shard) (whole : Shard) → AreParts inputs parts whole → IsContentOf key whole made
    merge_found inputs made (of_one x is opens) parts whole are =
        one_content selection whole x made (only_part x parts whole (subst (λ l. AreParts l parts whole) is are)) opens
    merge_found inputs made (of_halves firsts seconds c d halves one other unites) parts whole are =
        let both = both_parts inputs firsts seconds parts whole halves are in
        united_content both.a both.b whole c d (merge_found firsts c one both.ones both.a both.first) (merge_found seconds d other both.others both.b both.second) both.agree both.union made unites

    fewer : (part whole : Shard) (e : CoreError) → (RowsFitU32 whole → RowsFitU32 part) → MergeRefused part e → MergeRefused whole e
    fewer part whole e less (inl none) = inl none
    fewer part whole e less (inr (invalid, many)) = inr (invalid, λ few. many (less few))

    pub merge_refused : (inputs : List (List ℕ)) (e : CoreError) → MergeRefusal selection inputs e → (parts : List Shard) (whole : Shard) → AreParts inputs parts whole → MergeRefused whole e
    merge_refused inputs e (no_memory is) parts whole are = inl is
    merge_refused inputs e (of_none is invalid) parts whole are = absurd (omega (arith, are.some, ap length is))
    merge_refused inputs e (not_read x is refusal) parts whole are = inl (one_read selection whole x e (only_part x parts whole (subst (λ l. AreParts l parts whole) is are)) refusal)
    merge_refused inputs e (of_first firsts seconds halves refusal) parts whole are =
        let both = both_parts inputs firsts seconds parts whole halves are in
        fewer both.a whole e both.fewer_1 (merge_refused firsts e refusal both.ones both.a both.first)
    merge_refused inputs e (of_second firsts seconds c halves one refusal) parts whole are =
        let both = both_parts inputs firsts seconds parts whole halves are in
        fewer both.b whole e both.fewer_2 (merge_refused seconds e refusal both.others both.b both.second)
    merge_refused inputs e (of_union firsts seconds c d halves one other refusal) parts whole are =
        let both = both_parts inputs firsts seconds parts whole halves are in
        united_refused both.a both.b whole c d (merge_found firsts c one both.ones both.a both.first) (merge_found seconds d other both.others both.b both.second) both.agree both.union e refusal

    pub one_string : (inputs : List (List ℕ)) (parts : List Shard) (join : Shard) → IsMergeOfList selection key inputs parts join → (result : Result PlacedShard CoreError)
        → MatchResult result (λ made. IsMergeOf selection inputs (content made)) (MergeRefusal selection inputs) → MatchResult result (λ made. content made ≡ shard_content key join) (MergeRefused join)
    one_string inputs parts join are (Ok made) is = content_is join (content made) (merge_found inputs (content made) is parts join are)
    one_string inputs parts join are (Err e) refusal = merge_refused inputs e refusal parts join are

-- what a merge gives, whatever its inputs hold
module _ (selection : Selection) where
  pub lenient : (inputs : List (List ℕ)) (result : Result PlacedShard CoreError) → MatchResult result (IsMerged false selection inputs) (NotMerged false selection inputs)
      → MatchResult result (λ made. (made.as_read ≡ true) × IsMergeOf selection inputs (content made)) (MergeRefusal selection inputs)
  lenient inputs (Ok made) merged = (merged.as_read, merged.is)
  lenient inputs (Err e) refusal = refusal (λ so. absurd (true≢false (sym so)))

  pub contents : (inputs : List (List ℕ)) (result : Result PlacedShard CoreError) → MatchResult result (λ made. (made.as_read ≡ true) × IsMergeOf selection inputs (content made)) (MergeRefusal selection inputs)
      → MatchResult result (λ made. IsMergeOf selection inputs (content made)) (MergeRefusal selection inputs)
  contents inputs (Ok made) (read, is) = is
  contents inputs (Err e) refusal = refusal

-- an input whose records in a range were opened
pub opened_alone : (range : HashRange) (x : List ℕ) (c within : Content) (options : LayoutOptions) (made : PlacedShard) → Opens x c → within ≡ content_within range c → options ≡ keyed_options c.options.key
    → content made ≡ record within { options = options } → OpensWithin range x (content made)
opened_alone range x c within options made opens within_is options_are is =
    (c, opens, is ∙ (λ i. record (within_is i) { options = options_are i }))

-- the bytes that references to inputs refer to
abbrev pub bytes_of : List (Bor (List ℕ)) → List (List ℕ)
bytes_of xs = map (λ x. x.now) xs

pub no_bytes : (xs : List (Bor (List ℕ))) → length xs ≡ 0 → bytes_of xs ≡ []
no_bytes [] none = refl
no_bytes (x ∷ xs) none = absurd (omega (arith, none))

pub only_bytes : (xs : List (Bor (List ℕ))) (d : Bor (List ℕ)) → length xs ≡ 1 → bytes_of xs ≡ (get_or xs 0 d).now ∷ []
only_bytes [] d one = absurd (omega (arith, one))
only_bytes (x ∷ []) d one = refl
only_bytes (x ∷ y ∷ ys) d one = absurd (omega (arith, one))

pub halves_of : (xs firsts seconds : List (Bor (List ℕ))) → 1 < length xs → firsts ≡ take (length xs / 2) xs → seconds ≡ drop (length xs / 2) xs → AreHalves (bytes_of xs) (bytes_of firsts) (bytes_of seconds)
halves_of xs firsts seconds some first_is second_is = record {
  some = omega (arith, some, length-map xs (λ (x : Bor (List ℕ)). x.now));
  are = ap bytes_of (sym (take-append-drop (length xs / 2) xs)) ∙ map-append (λ (x : Bor (List ℕ)). x.now) (take (length xs / 2) xs) (drop (length xs / 2) xs)
      ∙ (λ i. bytes_of (sym first_is i) ++ bytes_of (sym second_is i));
  half = length-map firsts (λ (x : Bor (List ℕ)). x.now) ∙ ap length first_is ∙ length-take-le (length xs / 2) xs (omega arith) ∙ ap (λ n. n / 2) (sym (length-map xs (λ (x : Bor (List ℕ)). x.now)));
}
