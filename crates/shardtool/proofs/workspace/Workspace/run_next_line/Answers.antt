use Rattle.std.proofs.Common.{◌≡◌, ◌⊎◌, inl, ℕ, Option, None, Some, List, [], ◌++◌, Result, Ok, Err, IfSome, IfErr, IsErrAnd, refl, sym, ap, ◌∙◌, subst}
use Rattle.std.specs.Io.BufRead.{take_through}
use Rattle.std.specs.Str.{IsUtf8}
use Rattle.script_lines.specs.declared.words.ParseError.{ParseError}
use Rattle.script_lines.specs.declared.words.ParseError.TheVariants.{Unreadable}
use Rattle.script_lines.specs.Words.{IsSkipped, without_last}
use Rattle.shardtool.specs.declared.stop.Stop.{Stop}
use Rattle.shardtool.specs.declared.stop.Stop.TheVariants.{Unreadable as unreadable_stop}
use Rattle.shardtool.specs.ScriptEnds.{StopsAtFailure, StopsAtLine}
use Rattle.shardtool.specs.Lines.{first_line}
use Rattle.shardtool.proofs.workspace.Workspace.run_next_line.Goals as goal

-- where the input is known, the line that was read is its first
line_known : (input : Option (List ℕ)) (old line slice text : List ℕ) (Q : List ℕ → Type 0) → old ≡ [] → IfSome input (λ bytes. line ≡ old ++ take_through 10 bytes)
    → slice ≡ line → text ≡ without_last 13 (without_last 10 slice) → ((bytes : List ℕ) → text ≡ first_line bytes → Q bytes) → IfSome input Q
line_known None old line slice text Q empty read whole cut then = tt
line_known (Some bytes) old line slice text Q empty read whole cut then =
    then bytes (cut ∙ ap (λ l. without_last 13 (without_last 10 l)) (whole ∙ read ∙ ap (λ l. l ++ take_through 10 bytes) empty))

same_error : {T E : Type 0} (r : Result T E) (d e : E) → r ≡ Err d → r ≡ Err e → d ≡ e
same_error r d e was is = subst (λ q. IfErr q (λ x. d ≡ x)) (sym was ∙ is) refl

no_error : {T E : Type 0} (x : T) (e : E) → Ok x ≡ Err e → ⊥
no_error x e is = subst (λ r. IfErr r (λ _. ⊥)) is tt

stops_unread : {T : Type 0} (r : Result T Stop) (e : ParseError) → e ≡ Unreadable → IsErrAnd r (StopsAtLine e) → IsErrAnd r (λ s. (s ≡ unreadable_stop) ⊎ StopsAtFailure s)
stops_unread (Ok x) e is stops = stops
stops_unread (Err s) e is stops = inl (subst (λ x. StopsAtLine x s) is stops)

pub returns-in_err-command-clause-text : goal.returns-in_err-command-clause-text
returns-in_err-command-clause-text g c =
    line_known _ c.new-line.result.items c.read_until.new.buf.items c.as_slice.result.now c.without_end.result.now _ c.new-line.ensures.items c.in_ok-read_until.ensures.bytes c.as_slice.ensures.value c.without_end.ensures
    (λ bytes is unskipped untext.
    let stops = c.in_err-command.ensures.text (subst (λ l. ¬ (IsSkipped l)) (sym is) unskipped) (subst (λ l. ¬ (IsUtf8 l)) (sym is) untext) in
    let same = same_error _ c.in_err-command.field-0.0 Unreadable refl stops in
    (refl, refl, stops_unread c.from_residual-in_err-command.result c.in_err-command.field-0.0 same c.from_residual-in_err-command.ensures.1))

pub returns-in_err-run-clause-text : goal.returns-in_err-run-clause-text
returns-in_err-run-clause-text g c =
    line_known _ c.new-line.result.items c.read_until.new.buf.items c.as_slice.result.now c.without_end.result.now _ c.new-line.ensures.items c.in_ok-read_until.ensures.bytes c.as_slice.ensures.value c.without_end.ensures
    (λ bytes is unskipped untext.
    absurd (no_error c.in_ok-command.field-0 Unreadable (c.in_ok-command.ensures.text (subst (λ l. ¬ (IsSkipped l)) (sym is) unskipped) (subst (λ l. ¬ (IsUtf8 l)) (sym is) untext))))

pub returns-clause-text : goal.returns-clause-text
returns-clause-text g c =
    line_known _ c.new-line.result.items c.read_until.new.buf.items c.as_slice.result.now c.without_end.result.now _ c.new-line.ensures.items c.in_ok-read_until.ensures.bytes c.as_slice.ensures.value c.without_end.ensures
    (λ bytes is unskipped untext.
    absurd (no_error c.in_ok-command.field-0 Unreadable (c.in_ok-command.ensures.text (subst (λ l. ¬ (IsSkipped l)) (sym is) unskipped) (subst (λ l. ¬ (IsUtf8 l)) (sym is) untext))))
