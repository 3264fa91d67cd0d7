use Rattle.std.proofs.Common.{◌≡◌, Bor, List, ℕ, map, refl}
use Rattle.std.proofs.lemmas.Result.{IfOk-weaker}
use Rattle.xet_base.specs.KeyedHash.{no_key}
use Rattle.shard_concatenation.specs.Concatenation.{parts_layout, latest_of, IsConcatenation, RefusesConcatenation}
use Rattle.shard_concatenation.specs.Spans.{FillsSpan}
use Rattle.shard_concatenation.proofs.WithinSpan.{span_known}
use Rattle.shard_concatenation.proofs.Concatenation.{parts_of, concatenated_if, consecutive_parts}
use Rattle.shard_concatenation.proofs.spans.concatenated_span_into.Goals as goal

pub returns-clause-parts : goal.returns-clause-parts
returns-clause-parts c = λ key parts fit are.
    let bytes = parts_layout key parts in
    let fills = c.fill_span.ensures.parts key parts fit are in
    span_known (λ bs. bs ≡ bytes) (RefusesConcatenation (map (λ (x : Bor (List ℕ)). x.now) c.args.shards.now)) bytes c.args.from c.args.out.now c.fill_span.new.out c.fill_span.result
    (IfOk-weaker c.fill_span.result (FillsSpan bytes c.args.from c.args.out.now c.fill_span.new.out) (λ _. bytes ≡ bytes) (λ _ _. refl) fills) fills c.fill_span.ensures.causes

pub returns-clause-shard : goal.returns-clause-shard
returns-clause-shard c = λ written is.
    let shards : List (List ℕ) = map (λ (x : Bor (List ℕ)). x.now) c.args.shards.now in
    let parts = parts_of written shards is in
    let version = latest_of written shards is in
    let bytes = parts_layout no_key parts.parts in
    span_known (IsConcatenation version written) (RefusesConcatenation shards) bytes c.args.from c.args.out.now c.fill_span.new.out c.fill_span.result
    (concatenated_if written shards is parts c.fill_span.result (c.fill_span.ensures.order no_key parts.parts parts.fit parts.are parts.ascend) (c.fill_span.ensures.rows no_key parts.parts parts.fit parts.are))
    (c.fill_span.ensures.parts no_key parts.parts parts.fit parts.are) c.fill_span.ensures.causes

pub returns-clause-shard_succeeds : goal.returns-clause-shard_succeeds
returns-clause-shard_succeeds c = λ written all shard row is some.
    let parts = parts_of written (map (λ (x : Bor (List ℕ)). x.now) c.args.shards.now) is in
    c.fill_span.ensures.succeeds no_key parts.parts (consecutive_parts written c.args.shards.now all shard row is parts some) parts.are
