-- One packet after another.
use Rattle.std.proofs.Common.{◌≡◌, ℕ, ◌+◌, ◌-◌, ◌*◌, ◌%◌, ◌<◌, ◌≤◌, List, [], ◌∷◌, ◌++◌, length, take, drop, min, refl, sym, ap, ◌∙◌, subst, arith, append_assoc, append-nil, length-append}
use Rattle.std.proofs.lemmas.List.{take_at, take_rest, take-append-drop, length-drop, length-take-le, take-append-le}
use Rattle.std.proofs.lemmas.Grind.{flat_map-append}
use Rattle.std.proofs.Math.Seq.{take-add, take-append-add}
use borrow.Rule.Slice.PartMut.{put_mid}
use Rattle.std.proofs.lemmas.Nat.{mod-mul-add}
use Rattle.std.specs.List.{flat_map, AllByRecursion}
use Rattle.tiff_dir.specs.Packets.{Packet, Copied, Repeated, Passed, IsPacket, written, output, KeepRows, Packs, PacketsAreApart, TextsAreUnique}
use Rattle.packbits.specs.Adding.{Adds}
use Rattle.packbits.specs.Unpacking.{IsFirst, HasNoFirst, IsNotPacked}

-- a place of the output with so much room in its row
pub record HasRoom (row done room : ℕ) : Type 0 where
  pub rows : ℕ
  pub place : done + room ≡ rows * row + row
  pub some : 0 < room
  pub few : room ≤ row

pub used : (row done room : ℕ) → HasRoom row done room → done % row + room ≡ row
used row done room h =
    let is : done ≡ h.rows * row + (row - room) = omega (arith, h.place, h.few) in
    let low : row - room < row = omega (arith, h.some, h.few) in
    let rest : done % row ≡ row - room = ap (λ k. k % row) is ∙ mod-mul-add h.rows row (row - room) low in
    omega (arith, rest, h.few)

-- the room after count bytes more
pub room_left : (row done room count : ℕ) → HasRoom row done room → count < room → HasRoom row (done + count) (room - count)
room_left row done room count h below = record { rows = h.rows; place = omega (arith, h.place); some = omega arith; few = omega (arith, h.few) }

pub room_next : (row done room count : ℕ) → HasRoom row done room → count ≤ room → room ≤ count → HasRoom row (done + count) row
room_next row done room count h low high = record { rows = h.rows + 1; place = omega (arith, h.place); some = omega (arith, h.some, h.few); few = omega arith }

all_push : (ps : List Packet) (p : Packet) → AllByRecursion IsPacket ps → IsPacket p → AllByRecursion IsPacket (ps ++ p ∷ [])
all_push [] p all one = (one, tt)
all_push (q ∷ ps) p all one = (all.0, all_push ps p all.1 one)

keep_push : (row at : ℕ) (ps : List Packet) (p : Packet) → KeepRows row at ps → (at + length (flat_map output ps)) % row + length (output p) ≤ row → KeepRows row at (ps ++ p ∷ [])
keep_push row at [] p keep fits =
    let here : at + 0 ≡ at = omega arith in
    (subst (λ n. n % row + length (output p) ≤ row) here fits, tt)
keep_push row at (q ∷ ps) p keep fits =
    let place : at + length (output q ++ flat_map output ps) ≡ at + length (output q) + length (flat_map output ps) = omega (arith, length-append (output q) (flat_map output ps)) in
    (keep.0, keep_push row (at + length (output q)) ps p keep.1 (subst (λ n. n % row + length (output p) ≤ row) place fits))

-- one packet more
pub packs_push : (row : ℕ) (before text : List ℕ) (p : Packet) → Packs row before text → IsPacket p → length text % row + length (output p) ≤ row →
    Packs row (before ++ written p) (text ++ output p)
packs_push row before text p packs lawful fits =
    let ps = packs.packets in
    let one : written p ++ [] ≡ written p = append-nil (written p) in
    let text' : output p ++ [] ≡ output p = append-nil (output p) in
    let size : 0 + length (flat_map output ps) ≡ length text = omega (arith, ap length packs.out_is) in
    record {
      packets = ps ++ p ∷ [];
      lawful = all_push ps p packs.lawful lawful;
      bytes_are = flat_map-append written ps (p ∷ []) ∙ ap (λ l. l ++ (written p ++ [])) packs.bytes_are ∙ ap (λ l. before ++ l) one;
      out_is = flat_map-append output ps (p ∷ []) ∙ ap (λ l. l ++ (output p ++ [])) packs.out_is ∙ ap (λ l. text ++ l) text';
      rows = keep_push row 0 ps p packs.rows (subst (λ n. n % row + length (output p) ≤ row) (sym size) fits);
    }

pub packs_none : (row : ℕ) → Packs row [] []
packs_none row = record { packets = []; lawful = tt; bytes_are = refl; out_is = refl; rows = tt }

-- the first packet of the rest is taken
pub packs_first : (row : ℕ) (seg text new : List ℕ) (at len room : ℕ) → Packs row (take at seg) text → HasRoom row (length text) room → IsFirst (drop at seg) len new → length new ≤ room →
    Packs row (take (at + len) seg) (text ++ new)
packs_first row seg text new at len room packs has first fits =
    let p = first.packet in
    let bytes : take (at + len) seg ≡ take at seg ++ written p = take-add at len seg
    ∙ ap (λ l. take at seg ++ l) (ap (take len) first.begins ∙ take_at (written p) (drop len (drop at seg)) len (sym first.size)) in
    let room_is = used row (length text) room has in
    let size = ap length first.text_is in
    subst (λ b. Packs row b (text ++ new)) (sym bytes)
    (subst (λ t. Packs row (take at seg ++ written p) (text ++ t)) (sym first.text_is)
    (packs_push row (take at seg) text p packs first.lawful (omega (arith, room_is, size, fits))))

-- a packet is some bytes
some_written : (p : Packet) (us : List ℕ) → [] ≡ written p ++ us → ⊥
some_written (Copied bytes) us e = cc
some_written (Repeated times byte) us e = cc
some_written Passed us e = cc

-- packets whose bytes begin as those of others do begin with these
pub record Goes (ps qs : List Packet) (after : List ℕ) : Type 0 where
  pub rest : List Packet
  pub split : qs ≡ ps ++ rest
  pub bytes : flat_map written rest ≡ after

goes : PacketsAreApart → (ps qs : List Packet) (after : List ℕ) → AllByRecursion IsPacket ps → AllByRecursion IsPacket qs → flat_map written qs ≡ flat_map written ps ++ after → Goes ps qs after
goes apart [] qs after lawful lawful' parts = record { rest = qs; split = refl; bytes = parts }
goes apart (p ∷ ps) [] after lawful lawful' parts = absurd (some_written p (flat_map written ps ++ after) (parts ∙ append_assoc (written p) (flat_map written ps) after))
goes apart (p ∷ ps) (q ∷ qs) after lawful lawful' parts =
    let same = apart q p (flat_map written qs) (flat_map written ps ++ after) lawful'.0 lawful.0 (parts ∙ append_assoc (written p) (flat_map written ps) after) in
    let on = goes apart ps qs after lawful.1 lawful'.1 same.1 in
    record { rest = on.rest; split = (λ i. same.0 i ∷ on.split i); bytes = on.bytes }

keep_rest : (row at : ℕ) (ps rest : List Packet) → KeepRows row at (ps ++ rest) → KeepRows row (at + length (flat_map output ps)) rest
keep_rest row at [] rest keep = let here : at ≡ at + 0 = omega arith in subst (λ n. KeepRows row n rest) here keep
keep_rest row at (p ∷ ps) rest keep =
    let place : at + length (output p) + length (flat_map output ps) ≡ at + length (output p ++ flat_map output ps) = omega (arith, length-append (output p) (flat_map output ps)) in
    subst (λ n. KeepRows row n rest) place (keep_rest row (at + length (output p)) ps rest keep.1)

all_rest : (ps rest : List Packet) → AllByRecursion IsPacket (ps ++ rest) → AllByRecursion IsPacket rest
all_rest [] rest all = all
all_rest (p ∷ ps) rest all = all_rest ps rest all.1

refused_rest : (row done room n : ℕ) (after w : List ℕ) (rest : List Packet) → HasRoom row done room → length w ≡ n → 0 < length after → HasNoFirst after (min room (n - done)) →
    AllByRecursion IsPacket rest → KeepRows row done rest → flat_map written rest ≡ after → done + length (flat_map output rest) ≡ length w → ⊥
refused_rest row done room n after w [] has size some none all keep bytes total = absurd (omega (arith, some, ap length bytes))
refused_rest row done room n after w (r ∷ rest) has size some none all keep bytes total =
    let room_is = used row done room has in
    none r (flat_map written rest) all.0 (sym bytes) (omega (arith, room_is, keep.0, total, size, length-append (output r) (flat_map output rest)))

-- Bytes that go on without a packet that has room are packed in no way.
pub not_packed : PacketsAreApart → (row : ℕ) (seg text : List ℕ) (at room n : ℕ) → Packs row (take at seg) text → HasRoom row (length text) room → at < length seg →
    HasNoFirst (drop at seg) (min room (n - length text)) → IsNotPacked row seg n
not_packed apart row seg text at room n packs has more none w size other =
    let ps = packs.packets in
    let parts : flat_map written other.packets ≡ flat_map written ps ++ drop at seg =
    other.bytes_are ∙ sym (take-append-drop at seg) ∙ ap (λ l. l ++ drop at seg) (sym packs.bytes_are) in
    let on = goes apart ps other.packets (drop at seg) packs.lawful other.lawful parts in
    let place : 0 + length (flat_map output ps) ≡ length text = omega (arith, ap length packs.out_is) in
    let keep : KeepRows row (length text) on.rest = subst (λ k. KeepRows row k on.rest) place (keep_rest row 0 ps on.rest (subst (KeepRows row 0) on.split other.rows)) in
    let total : length text + length (flat_map output on.rest) ≡ length w = sym (ap length (sym other.out_is ∙ ap (flat_map output) on.split ∙ flat_map-append output ps on.rest ∙ ap (λ l. l ++ flat_map output on.rest) packs.out_is)
    ∙ length-append text (flat_map output on.rest)) in
    refused_rest row (length text) room n (drop at seg) w on.rest has size (omega (arith, more, length-drop at seg)) none
    (all_rest ps on.rest (subst (AllByRecursion IsPacket) on.split other.lawful)) keep on.bytes total

-- Bytes that stand for a shorter text are packed in no way.
pub not_filled : TextsAreUnique → (row : ℕ) (seg text : List ℕ) (n : ℕ) → Packs row seg text → length text < n → IsNotPacked row seg n
not_filled unique row seg text n packs short w size other = omega (arith, short, size, ap length (unique row seg text w packs other))

-- the front of the output, once a part of it is written
pub front_of : (out new : List ℕ) (done k count : ℕ) → done ≤ length out → count ≤ length new → take (done + count) (put_mid done k out new) ≡ take done out ++ take count new
front_of out new done k count within few =
    let size : length (take done out) ≡ done = length-take-le done out within in
    ap (λ n. take (n + count) (put_mid done k out new)) (sym size)
    ∙ take-append-add (take done out) (new ++ drop k (drop done out)) count
    ∙ ap (λ l. take done out ++ l) (take-append-le count new (drop k (drop done out)) few)

-- the first packet of the rest is written to the output
pub packs_next : (row : ℕ) (seg out new : List ℕ) (at len done room k count : ℕ) → Packs row (take at seg) (take done out) → HasRoom row done room → done ≤ length out → count ≤ length new → count ≤ room →
    IsFirst (drop at seg) len (take count new) → Packs row (take (at + len) seg) (take (done + count) (put_mid done k out new))
packs_next row seg out new at len done room k count packs has within few fits first =
    let size : length (take done out) ≡ done = length-take-le done out within in
    let some : length (take count new) ≡ count = length-take-le count new few in
    subst (Packs row (take (at + len) seg)) (sym (front_of out new done k count within few))
    (packs_first row seg (take done out) (take count new) at len room packs (subst (λ n. HasRoom row n room) (sym size) has) first (omega (arith, some, fits)))

pub fits_in : (out new : List ℕ) (done k count : ℕ) → done ≤ length out → count ≤ length new → done + count ≤ length (put_mid done k out new)
fits_in out new done k count within few =
    omega (arith, length-take-le done out within, few, length-append (take done out) (new ++ drop k (drop done out)), length-append new (drop k (drop done out)))

-- a packet of the rest of one row is appended
pub packs_added : (row packed new : List ℕ) (at len : ℕ) → Packs (length row) packed (take at row) → at < length row → Adds packed new (drop at row) len → Packs (length row) new (take (at + len) row)
packs_added row packed new at len packs below adds =
    let n = length row in
    let size : length (take at row) ≡ at = length-take-le at row (omega arith) in
    let sum : at ≡ 0 * n + at = omega arith in
    let place : length (take at row) % n ≡ at = ap (λ k. k % n) (size ∙ sum) ∙ mod-mul-add 0 n at below in
    let text : length (output adds.packet) ≡ len = ap length (sym adds.text_is) ∙ length-take-le len (drop at row) adds.within in
    let fits : length (take at row) % n + length (output adds.packet) ≤ n = omega (arith, place, text, adds.within, length-drop at row) in
    let whole : take (at + len) row ≡ take at row ++ output adds.packet = take-add at len row ∙ ap (λ l. take at row ++ l) adds.text_is in
    subst (λ b. Packs n b (take (at + len) row)) (sym adds.added)
    (subst (Packs n (packed ++ written adds.packet)) (sym whole) (packs_push n packed (take at row) adds.packet packs adds.lawful fits))

-- ---- a loop that unpacks packet after packet

-- the first `at` bytes are packets for the first `done` of the output, in whose row so much room is left
pub record IsUnpackedTo (row : ℕ) (seg out : List ℕ) (at done room : ℕ) : Type 0 where
  pub inside : at ≤ length seg
  pub fits : done ≤ length out
  pub packs : Packs row (take at seg) (take done out)
  pub has : HasRoom row done room

-- the next packet is unpacked
pub unpacked_on : (row : ℕ) (seg out new : List ℕ) (at len done room room' count : ℕ) → IsUnpackedTo row seg out at done room →
    (len ≤ length (take (length seg - at) (drop at seg))) × (count ≤ room) × (count ≤ length (take (length out - done) (drop done out)))
    × IsFirst (take (length seg - at) (drop at seg)) len (take count new) →
    length new ≡ length (take (length out - done) (drop done out)) → HasRoom row (done + count) room' →
    IsUnpackedTo row seg (put_mid done (length out - done) out new) (at + len) (done + count) room'
unpacked_on row seg out new at len done room room' count kept first long has =
    let few : count ≤ length new = omega (arith, first.2, long) in
    let begins = subst (λ l. IsFirst l len (take count new)) (take_rest seg at) first.3 in
    record {
      inside = omega (arith, first.0, ap length (take_rest seg at), length-drop at seg, kept.inside);
      fits = fits_in out new done (length out - done) count kept.fits few;
      packs = packs_next row seg out new at len done room (length out - done) count kept.packs kept.has kept.fits few first.1 begins;
      has = has;
    }
