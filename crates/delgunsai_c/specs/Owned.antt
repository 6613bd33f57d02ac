-- What a place owns: what a handle holds in the heap and the right to free it, or nothing.
use Rattle.std.specs.Prelude.{Option, None, Some}
use Rattle.std.specs.Borrow.{ftrue}
use Rattle.std.specs.Box.Ownership.{box_owns}
use Rattle.std.specs.Coded.{Coded, coded_option}
use Rattle.std.specs.declared.alloc.Global.{Global}
use Rattle.std.specs.contracts.impls.GlobalAllocator.TheImpl.{ghosts}
use base.Fml.{Fml}
use denote.RawPtr.{Ptr}
use Rattle.delgunsai_c.specs.declared.held.Held.{Held}
use Rattle.delgunsai_c.specs.contracts.held.Held.{the_row}

abbrev pub owned : Option Held → Global → Ptr → Fml
owned None _ _ = ftrue
owned (Some c) a p = box_owns (ghosts.dealloc_token a) the_row p c

-- how the logic stores the client of a place
abbrev pub inside_coded : Coded (Option Held)
inside_coded = coded_option (the_row.coded)
