use Rattle.std.proofs.Common.{◌≡◌, ◌++◌, drop}
use Rattle.scripts.specs.LogText.{text_of_log}
use Rattle.scripts.proofs.log.log_text.Given as goal

-- the text so far and that of the entries that are left are the text of all
abbrev pub invariant-loop-entry : goal.invariant-loop-entry
invariant-loop-entry l =
    l.text.bytes.items ++ text_of_log (drop l.entry-index l.log.entries.items) ≡ text_of_log l.log.entries.items
