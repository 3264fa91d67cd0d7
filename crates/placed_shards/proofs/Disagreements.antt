-- Where shards disagree: what differs in their files and in their xorbs.
use Rattle.std.proofs.Common.{◌≡◌, ◌⊎◌, inl, inr, ℕ, Bool, true, false, List, [], ◌∷◌, ◌++◌, map, Option, None, Some, refl, sym, ap, ◌∙◌, subst, cond}
use Rattle.std.specs.Prelude.{All, Contains, option_map, slice_get}
use Rattle.std.specs.List.{AllByRecursion}
use Rattle.std.specs.List.Sorted.{IsStrictlySortedBy}
use Rattle.std.specs.Ordering.{eq_by_cmp}
use Rattle.std.specs.declared.cmp.Ordering.TheVariants.{Less}
use Rattle.std.proofs.lemmas.List.{map-append}
use Rattle.std.proofs.lemmas.List.Elements.{All-contains, Contains-append_cases, Contains-append_left, Contains-append_right}
use Rattle.std.proofs.lemmas.Option.{none-some, same_Some, slice_get-map}
use Rattle.xet_base.specs.declared.merklehash.DataHash.{DataHash}
use Rattle.xet_base.specs.Hash.{hash_cmp}
use Rattle.xet_records.specs.declared.file_structs.MDBFileInfo.{MDBFileInfo}
use Rattle.xet_records.specs.declared.xorb_structs.MDBXorbInfo.{MDBXorbInfo}
use Rattle.xet_records.specs.FileRecord.{as_read, file_records}
use Rattle.xet_records.specs.Merging.{Agree}
use Rattle.xet_records.specs.RecordKind.{RecordKind, KindLaws}
use Rattle.xet_records.specs.XorbRecord.{xorb_records}
use Rattle.xet_records.proofs.RecordKinds.{file_laws, xorb_laws}
use Rattle.xet_shards.specs.Write.WithOptions.{Ascends}
use Rattle.xet_shards.proofs.Content.MappedShards.{mapped_member, unmapped_member}
use Rattle.xet_core_structures.specs.Records.RecordPairs.{key_of_record, with_hash}
use Rattle.xet_core_structures.proofs.Records.ShardContents.{stored_ascend}
use Rattle.placed_shards.specs.declared.differing.Differing.{Differing}
use Rattle.placed_shards.specs.declared.findings.Disagreement.{Disagreement}
use Rattle.placed_shards.specs.declared.findings.RecordHash.{RecordHash}
use Rattle.placed_shards.specs.declared.findings.RecordHash.TheVariants.{File, Xorb}
use Rattle.placed_shards.specs.declared.placed_shard.PlacedShard.{PlacedShard}
use Rattle.placed_shards.specs.Agreement.{AgreeIfBoth, AreEqual}
use Rattle.placed_shards.specs.Content.{Content, content}
use Rattle.placed_shards.specs.Findings.{record_hash_cmp, AgreeUnder, DoDisagree, HasAllDisagreements}
use Rattle.placed_shards.specs.Steps.Differing.{disagreement_of, AgreeAsRead, FindsDiffering, IsReadInOrder}
use Rattle.placed_shards.proofs.Contents.{files_read, xorbs_read}
use Rattle.placed_shards.proofs.Items.{has_at}

abbrev hashes : List Differing → List DataHash
hashes found = map (λ d. d.hash) found

abbrev record_hashes : List Disagreement → List RecordHash
record_hashes found = map (λ d. d.record_hash) found

-- an item of a mapped list is an item, mapped
mapped_at : {X Y : Type 0} (f : X → Y) (xs : List X) (i : ℕ) (y : Y) → slice_get (map f xs) i ≡ Some y → (x : X) × (slice_get xs i ≡ Some x) × (f x ≡ y)
mapped_at {X} {Y} f xs i y at = of (slice_get xs i) refl (sym (slice_get-map f xs i) ∙ at) where
  of : (o : Option X) → slice_get xs i ≡ o → option_map f o ≡ Some y → (x : X) × (slice_get xs i ≡ Some x) × (f x ≡ y)
  of None is none = absurd (none-some y none)
  of (Some x) is some = (x, is, same_Some (f x) y some)

module _ {H R : Type 0} (K : RecordKind H R) (laws : KindLaws K) (agree : R → R → Type 0) where
  -- what is read under a hash is what is stored there, read
  with_hash_read : (rs : List R) (q : DataHash) → with_hash K (map K.as_read rs) q ≡ option_map K.as_read (with_hash K rs q)
  with_hash_read [] q = refl
  with_hash_read (r ∷ rs) q =
      (λ i. cond (eq_by_cmp hash_cmp q (K.hash_of (laws.same_header r i))) (Some (K.as_read r)) (with_hash_read rs q i))
      ∙ if_mapped (eq_by_cmp hash_cmp q (key_of_record K r)) where
        if_mapped : (b : Bool) → cond b (Some (K.as_read r)) (option_map K.as_read (with_hash K rs q)) ≡ option_map K.as_read (cond b (Some r) (with_hash K rs q))
        if_mapped true = refl
        if_mapped false = refl

  -- so records agree as reading returns them if the stored ones do so
  as_read_to : (a b : Option R) → AgreeIfBoth (AgreeAsRead K agree) a b → AgreeIfBoth agree (option_map K.as_read a) (option_map K.as_read b)
  as_read_to None b agreed = tt
  as_read_to (Some r) None agreed = tt
  as_read_to (Some r) (Some s) agreed = agreed

  as_read_from : (a b : Option R) → AgreeIfBoth agree (option_map K.as_read a) (option_map K.as_read b) → AgreeIfBoth (AgreeAsRead K agree) a b
  as_read_from None b agreed = tt
  as_read_from (Some r) None agreed = tt
  as_read_from (Some r) (Some s) agreed = agreed

  module _ (listed : PlacedShard → List R) (of_content : Content → List R) (are : (s : PlacedShard) → IsReadInOrder s → map K.as_read (listed s) ≡ of_content (content s)) (shards : List PlacedShard) (read : All IsReadInOrder shards) where
    is_read : (s : PlacedShard) → Contains shards s → IsReadInOrder s
    is_read s has = All-contains IsReadInOrder shards s read has

    pub lists_ascend : ((s : PlacedShard) → IsReadInOrder s → Ascends K (of_content (content s))) → (l : List R) → Contains (map listed shards) l → Ascends K l
    lists_ascend ascend l has =
        let s = unmapped_member listed shards l has in
        subst (Ascends K) s.2 (stored_ascend K laws (listed s.0) (of_content (content s.0)) (are s.0 (is_read s.0 s.1)) (ascend s.0 (is_read s.0 s.1)))

    module _ (found : List Differing) (finds : FindsDiffering K (AgreeAsRead K agree) (map listed shards) found) where
      abbrev AgreeHere : DataHash → Content → Content → Type 0
      AgreeHere q c d = AgreeIfBoth agree (with_hash K (of_content c) q) (with_hash K (of_content d) q)

      under : (s : PlacedShard) → Contains shards s → (q : DataHash) → option_map K.as_read (with_hash K (listed s) q) ≡ with_hash K (of_content (content s)) q
      under s has q = sym (with_hash_read (listed s) q) ∙ ap (λ l. with_hash K l q) (are s (is_read s has))

      each_here : (d : Differing) → Contains found d → (c e : Content) × (slice_get (map content shards) d.first ≡ Some c) × (slice_get (map content shards) d.second ≡ Some e) × (¬ AgreeHere d.hash c e)
      each_here d has =
          let two = finds.each d has in
          let one = mapped_at listed shards d.first two.0 two.2 in
          let other = mapped_at listed shards d.second two.1 two.3 in
          let s = one.0 in
          let t = other.0 in
          let one_is = under s (has_at shards d.first s one.1) d.hash in
          let other_is = under t (has_at shards d.second t other.1) d.hash in (
            content s,
            content t,
            slice_get-map content shards d.first ∙ ap (option_map content) one.1,
            slice_get-map content shards d.second ∙ ap (option_map content) other.1,
            λ agreed. two.4 (subst (λ p. p) (λ i. AgreeIfBoth (AgreeAsRead K agree) (with_hash K (one.2 i) d.hash) (with_hash K (other.2 i) d.hash))
                (as_read_from (with_hash K (listed s) d.hash) (with_hash K (listed t) d.hash) (subst (λ p. p) (λ i. AgreeIfBoth agree (sym one_is i) (sym other_is i)) agreed))),
          )

      others_here : (q : DataHash) → ¬ Contains (hashes found) q → (c e : Content) → Contains (map content shards) c → Contains (map content shards) e → AgreeHere q c e
      others_here q none c e c_has e_has =
          let one = unmapped_member content shards c c_has in
          let other = unmapped_member content shards e e_has in
          let s = one.0 in
          let t = other.0 in
          subst (λ p. p) (λ i. AgreeHere q (one.2 i) (other.2 i))
          (subst (λ p. p) (λ i. AgreeIfBoth agree (under s one.1 q i) (under t other.1 q i))
          (as_read_to (with_hash K (listed s) q) (with_hash K (listed t) q) (finds.others q none (listed s) (listed t) (mapped_member listed shards s one.1) (mapped_member listed shards t other.1))))

files_in : (s : PlacedShard) → IsReadInOrder s → map as_read s.files.items ≡ (content s).files
files_in s is = files_read s is.as_read

xorbs_in : (s : PlacedShard) → IsReadInOrder s → map (λ x. x) s.xorbs.items ≡ (content s).xorbs
xorbs_in s is = xorbs_read s

-- the record hashes of one kind
named_hashes : (named : DataHash → RecordHash) (found : List Differing) → record_hashes (map (disagreement_of named) found) ≡ map named (hashes found)
named_hashes named [] = refl
named_hashes named (d ∷ found) = ap (λ hs. named d.hash ∷ hs) (named_hashes named found)

-- files before xorbs, each in order
xorbs_above : (q : DataHash) (xs : List DataHash) → AllByRecursion (λ x. hash_cmp q x ≡ Less) xs → AllByRecursion (λ h. record_hash_cmp (Xorb q) h ≡ Less) (map Xorb xs)
xorbs_above q [] all = tt
xorbs_above q (x ∷ xs) all = (all.0, xorbs_above q xs all.1)

after_files : (q : DataHash) (xs : List DataHash) → AllByRecursion (λ h. record_hash_cmp (File q) h ≡ Less) (map Xorb xs)
after_files q [] = tt
after_files q (x ∷ xs) = (refl, after_files q xs)

files_above : (q : DataHash) (fs xs : List DataHash) → AllByRecursion (λ f. hash_cmp q f ≡ Less) fs → AllByRecursion (λ h. record_hash_cmp (File q) h ≡ Less) (map File fs ++ map Xorb xs)
files_above q [] xs all = after_files q xs
files_above q (f ∷ fs) xs all = (all.0, files_above q fs xs all.1)

xorbs_in_order : (xs : List DataHash) → IsStrictlySortedBy hash_cmp xs → IsStrictlySortedBy record_hash_cmp (map Xorb xs)
unfolding IsStrictlySortedBy
xorbs_in_order [] sorted = tt
xorbs_in_order (x ∷ xs) sorted = (xorbs_above x xs sorted.0, xorbs_in_order xs sorted.1)

both_in_order : (fs xs : List DataHash) → IsStrictlySortedBy hash_cmp fs → IsStrictlySortedBy hash_cmp xs → IsStrictlySortedBy record_hash_cmp (map File fs ++ map Xorb xs)
unfolding IsStrictlySortedBy
both_in_order [] xs files xorbs = xorbs_in_order xs xorbs
both_in_order (f ∷ fs) xs files xorbs = (files_above f fs xs files.0, both_in_order fs xs files.1 xorbs)

module _ (shards : List PlacedShard) (read : All IsReadInOrder shards) where
  pub files_ascend : (l : List MDBFileInfo) → Contains (map (λ s. s.files.items) shards) l → Ascends file_records l
  files_ascend = lists_ascend file_records file_laws Agree (λ s. s.files.items) (λ c. c.files) files_in shards read (λ s is. is.ascend.files)

  pub xorbs_ascend : (l : List MDBXorbInfo) → Contains (map (λ s. s.xorbs.items) shards) l → Ascends xorb_records l
  xorbs_ascend = lists_ascend xorb_records xorb_laws AreEqual (λ s. s.xorbs.items) (λ c. c.xorbs) xorbs_in shards read (λ s is. is.ascend.xorbs)

  module _ (files xorbs : List Differing) (files_differ : FindsDiffering file_records (AgreeAsRead file_records Agree) (map (λ s. s.files.items) shards) files)
      (xorbs_differ : FindsDiffering xorb_records (AgreeAsRead xorb_records AreEqual) (map (λ s. s.xorbs.items) shards) xorbs) where
    abbrev found : List Disagreement
    found = map (disagreement_of File) files ++ map (disagreement_of Xorb) xorbs

    hashes_are : record_hashes found ≡ map File (hashes files) ++ map Xorb (hashes xorbs)
    hashes_are = map-append (λ (d : Disagreement). d.record_hash) (map (disagreement_of File) files) (map (disagreement_of Xorb) xorbs) ∙ (λ i. named_hashes File files i ++ named_hashes Xorb xorbs i)

    each : (d : Disagreement) → Contains found d → DoDisagree (map content shards) d
    each d has = of (Contains-append_cases (map (disagreement_of File) files) (map (disagreement_of Xorb) xorbs) d has) where
      of : Contains (map (disagreement_of File) files) d ⊎ Contains (map (disagreement_of Xorb) xorbs) d → DoDisagree (map content shards) d
      of (inl in_files) =
          let x = unmapped_member (disagreement_of File) files d in_files in
          let two = each_here file_records file_laws Agree (λ s. s.files.items) (λ c. c.files) files_in shards read files files_differ x.0 x.1 in
          subst (DoDisagree (map content shards)) x.2 (record { one = two.0; other = two.1; is_first = two.2; is_second = two.3; differ = two.4 })
      of (inr in_xorbs) =
          let x = unmapped_member (disagreement_of Xorb) xorbs d in_xorbs in
          let two = each_here xorb_records xorb_laws AreEqual (λ s. s.xorbs.items) (λ c. c.xorbs) xorbs_in shards read xorbs xorbs_differ x.0 x.1 in
          subst (DoDisagree (map content shards)) x.2 (record { one = two.0; other = two.1; is_first = two.2; is_second = two.3; differ = two.4 })

    others : (h : RecordHash) → ¬ Contains (record_hashes found) h → (c e : Content) → Contains (map content shards) c → Contains (map content shards) e → AgreeUnder h c e
    others (File q) none = others_here file_records file_laws Agree (λ s. s.files.items) (λ c. c.files) files_in shards read files files_differ q
        (λ has. none (subst (λ hs. Contains hs (File q)) (sym hashes_are) (Contains-append_left (map File (hashes files)) (map Xorb (hashes xorbs)) (File q) (mapped_member File (hashes files) q has))))
    others (Xorb q) none = others_here xorb_records xorb_laws AreEqual (λ s. s.xorbs.items) (λ c. c.xorbs) xorbs_in shards read xorbs xorbs_differ q
        (λ has. none (subst (λ hs. Contains hs (Xorb q)) (sym hashes_are) (Contains-append_right (map File (hashes files)) (map Xorb (hashes xorbs)) (Xorb q) (mapped_member Xorb (hashes xorbs) q has))))

    pub all_disagreements : HasAllDisagreements (map content shards) found
    all_disagreements = record {
      each = each;
      in_order = subst (IsStrictlySortedBy record_hash_cmp) (sym hashes_are) (both_in_order (hashes files) (hashes xorbs) files_differ.ascends xorbs_differ.ascends);
      others = others;
    }
