-- Bytes that go on without a packet.
use Rattle.std.proofs.Common.{◌≡◌, ℕ, ◌+◌, ◌%◌, ◌≤◌, ◌<◌, List, [], ◌∷◌, ◌++◌, length, drop, refl, sym, ap, subst, ◌∙◌, arith, append_assoc}
use Rattle.std.specs.List.{flat_map, AllByRecursion}
use Rattle.std.proofs.lemmas.List.{length-append}
use Rattle.std.proofs.Math.Seq.{drop-append_seam}
use Rattle.tiff_dir.specs.Packets.{Packet, Copied, Repeated, Passed, IsPacket, KeepRows, PacketsAreApart, written, output}
use Rattle.reference_support.specs.Unpacking.{HasNoNextPacket, IsNotPacked, IsUnpackedTo}

-- a packet is some bytes
pub some_written : (p : Packet) (us : List ℕ) → [] ≡ written p ++ us → ⊥
some_written (Copied bytes) us e = cc
some_written (Repeated times byte) us e = cc
some_written Passed us e = cc

-- Packets whose bytes begin with other packets' and go on with after have a packet there.
pub no_way_on : PacketsAreApart → (row at : ℕ) (ps qs : List Packet) (after : List ℕ) → AllByRecursion IsPacket ps → AllByRecursion IsPacket qs → KeepRows row at qs
    → flat_map written qs ≡ flat_map written ps ++ after → 0 < length after
    → ((r : Packet) (rest : List ℕ) → IsPacket r → after ≡ written r ++ rest → (at + length (flat_map output ps)) % row + length (output r) ≤ row → ⊥) → ⊥
no_way_on apart row at [] [] after lawful lawful' keep parts some refused = absurd (omega (arith, some, ap length parts))
no_way_on apart row at [] (q ∷ qs) after lawful lawful' keep parts some refused = refused q (flat_map written qs) lawful'.0 (sym parts)
    (subst (λ n. n % row + length (output q) ≤ row) (here at) keep.0)
  where
    here : (n : ℕ) → n ≡ n + 0
    here n = omega arith
no_way_on apart row at (p ∷ ps) [] after lawful lawful' keep parts some refused =
    some_written p (flat_map written ps ++ after) (parts ∙ append_assoc (written p) (flat_map written ps) after)
no_way_on apart row at (p ∷ ps) (q ∷ qs) after lawful lawful' keep parts some refused =
    let same = apart q p (flat_map written qs) (flat_map written ps ++ after) lawful'.0 lawful.0 (parts ∙ append_assoc (written p) (flat_map written ps) after) in
    no_way_on apart row (at + length (output q)) ps qs after lawful.1 lawful'.1 keep.1 same.1 some
    (λ r rest one begins fits. refused r rest one begins (subst (λ n. n % row + length (output r) ≤ row)
    (omega (arith, ap (λ s. length (output s)) same.0, length-append (output p) (flat_map output ps))) fits))

-- A text that is not unpacked whole and has no next packet is packed in no way.
pub not_packed : PacketsAreApart → (row at : ℕ) (bytes out : List ℕ) → IsUnpackedTo row bytes at out → at < length bytes → HasNoNextPacket row (drop at bytes) out → IsNotPacked row bytes
not_packed apart row at bytes out so_far more none other packs =
    let parts : bytes ≡ flat_map written so_far.packs.packets ++ so_far.after = so_far.parts ∙ ap (λ xs. xs ++ so_far.after) (sym so_far.packs.bytes_are) in
    let rest : drop at bytes ≡ so_far.after = rest_at bytes so_far.before so_far.after at so_far.parts so_far.place in
    let some : 0 < length so_far.after = omega (arith, more, so_far.place, ap length so_far.parts, length-append so_far.before so_far.after) in
    let size : length out ≡ 0 + length (flat_map output so_far.packs.packets) = omega (arith, ap length so_far.packs.out_is) in
    no_way_on apart row 0 so_far.packs.packets packs.packets so_far.after so_far.packs.lawful packs.lawful packs.rows (packs.bytes_are ∙ parts) some
    (λ p after lawful begins fits. none (length (written p)) (out ++ output p) (record {
      packet = p;
      after = after;
      lawful = lawful;
      begins = rest ∙ begins;
      size = refl;
      fits = subst (λ n. n % row + length (output p) ≤ row) (sym size) fits;
      added = refl;
    }))
  where
    rest_at : (all xs ys : List ℕ) (n : ℕ) → all ≡ xs ++ ys → n ≡ length xs → drop n all ≡ ys
    rest_at all xs ys n parts size = rw (parts, size) (drop-append_seam xs ys)
