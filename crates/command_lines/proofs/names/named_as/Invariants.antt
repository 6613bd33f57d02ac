use Rattle.std.proofs.Common.{◌≡◌, map, take}
use Rattle.std.specs.Prelude.{string_bytes}
use Rattle.command_lines.specs.FileName.{name_byte}
use Rattle.command_lines.proofs.names.named_as.Given as goal

-- the name of the bytes so far
abbrev pub invariant-loop-byte : goal.invariant-loop-byte
invariant-loop-byte l = string_bytes l.name ≡ map name_byte (take l.byte-index l.text)
