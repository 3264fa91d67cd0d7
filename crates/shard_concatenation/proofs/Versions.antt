-- The latest of some versions.
use Rattle.std.proofs.Common.{◌≡◌, List, [], ◌∷◌, ◌++◌, map, refl, ap, ◌∙◌}
use Rattle.xet_records.specs.declared.record_reader.FormatVersion.{FormatVersion}
use Rattle.xet_records.specs.declared.record_reader.FormatVersion.TheVariants.{V2, V3}
use Rattle.shard_concatenation.proofs.SectionParts.{map-push}
use Rattle.shard_concatenation.specs.Concatenation.{ShardPart, later, latest, version_in}

later-V2 : (version : FormatVersion) → later version V2 ≡ version
later-V2 V2 = refl
later-V2 V3 = refl

later-assoc : (u v w : FormatVersion) → later u (later v w) ≡ later (later u v) w
later-assoc V2 v w = refl
later-assoc V3 v w = refl

-- the latest with one version more
latest-push : (versions : List FormatVersion) (version : FormatVersion) → latest (versions ++ version ∷ []) ≡ later (latest versions) version
latest-push [] version = later-V2 version
latest-push (v ∷ versions) version = ap (later v) (latest-push versions version) ∙ later-assoc v (latest versions) version

pub version_in-push : (parts : List ShardPart) (part : ShardPart) → version_in (parts ++ part ∷ []) ≡ later (version_in parts) part.version
version_in-push parts part = ap latest (map-push (λ (p : ShardPart). p.version) parts part) ∙ latest-push (map (λ (p : ShardPart). p.version) parts) part.version
