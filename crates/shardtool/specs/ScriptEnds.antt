-- How a script ends, and why it stops.
use Rattle.std.specs.Prelude.{◌≡◌, ◌≢◌, ◌⊎◌, ℕ, ⊤}
use Rattle.std.specs.IoError.{error_kind}
use Rattle.std.specs.declared.io.Error.{Error}
use Rattle.std.specs.declared.io.ErrorKind.TheVariants.{OutOfMemory as device_out_of_memory}
use Rattle.xet_core_structures.specs.declared.error.CoreError.TheVariants.{OutOfMemory}
use Rattle.script_lines.specs.declared.words.ParseError.{ParseError}
use Rattle.script_lines.specs.declared.words.ParseError.TheVariants.{Unreadable as unreadable_line, OutOfMemory as line_out_of_memory}
use Rattle.shardtool.specs.declared.run.ScriptEnd.{ScriptEnd}
use Rattle.shardtool.specs.declared.run.ScriptEnd.TheVariants.{Done as done_ending, Refused as refused_ending, Unreadable as unreadable_ending, Failed as failed_ending}
use Rattle.shardtool.specs.declared.stop.Stop.{Stop}
use Rattle.shardtool.specs.declared.stop.Stop.TheVariants.{Refused, Unreadable, Failed}

-- the exit status of an ending
abbrev pub status_of : ScriptEnd → ℕ
status_of done_ending = 0
status_of refused_ending = 1
status_of unreadable_ending = 2
status_of failed_ending = 3

-- a command was refused, or an allocation failed
abbrev pub IsRefused : Stop → Type 0
IsRefused (Refused _) = ⊤
IsRefused Unreadable = ⊥
IsRefused Failed = ⊥

-- the stop at a line that is not a command
abbrev pub StopsAtLine : ParseError → Stop → Type 0
StopsAtLine unreadable_line stop = stop ≡ Unreadable
StopsAtLine line_out_of_memory stop = IsRefused stop

-- the stop at an error of the input or the output: out of memory counts as a failed allocation
abbrev pub StopsAtFault : Error → Stop → Type 0
StopsAtFault error (Refused e) = (error_kind error ≡ device_out_of_memory) × (e ≡ OutOfMemory)
StopsAtFault error Unreadable = ⊥
StopsAtFault error Failed = error_kind error ≢ device_out_of_memory

-- the stop of a failed allocation, input or output
abbrev pub StopsAtFailure : Stop → Type 0
StopsAtFailure stop = (stop ≡ Refused OutOfMemory) ⊎ (stop ≡ Failed)

-- the ending after a stop, or that of an output that fails while the stop is printed
abbrev pub EndsAt : Stop → ScriptEnd → Type 0
EndsAt (Refused _) ending = (ending ≡ refused_ending) ⊎ (ending ≡ failed_ending)
EndsAt Unreadable ending = (ending ≡ unreadable_ending) ⊎ (ending ≡ failed_ending)
EndsAt Failed ending = ending ≡ failed_ending
