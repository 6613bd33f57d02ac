-- A place and the parts of a box own what a box at the same types owns.
use mir.Syntax.{impl, tnil, dnil}
use mathlib.Core.List.{[]}
use denote.Signature.{Slot, plain}
use Rattle.std.proofs.BoxSteps.Form.{Bx}
use Rattle.std.specs.contracts.alloc.Global as Heap
use Rattle.std.specs.contracts.impls.GlobalAllocator.TheImpl.{ghosts, dict}
use Rattle.std.proofs.alloc.Global.TheLaws as heap
use Rattle.delgunsai_c.specs.contracts.held.Held as Held
use Rattle.delgunsai_c.proofs.held.Held.TheLaws as held
use Rattle.delgunsai_c.specs.contracts.parts.RawParts as RawParts
use Rattle.delgunsai_c.specs.contracts.client_pointer.ClientPointer as ClientPointer

abbrev pub E : Bx
E = record { row = Held.the_row; laws = held.the_row_laws; al = record { row = Heap.the_row; laws = heap.the_row_laws; g = ghosts; d = dict; drops = impl [] tnil dnil } }

abbrev pub FromParts : Slot 0
FromParts = plain (λ _. RawParts.the_row Held.the_row Heap.the_row ghosts)

abbrev pub FromPlace : Slot 0
FromPlace = plain (λ _. ClientPointer.the_row)

abbrev pub FromHeap : Slot 0
FromHeap = plain (λ _. Heap.the_row)
