-- Lines of a script: the events of those that are read so far, and the first that isn't read.
use Rattle.std.proofs.Common.{◌≡◌, ◌∙◌, ℕ, zero, suc, ◌+◌, ◌<◌, Bool, true, false, List, [], ◌∷◌, ◌++◌, filter, length, get_or, take, drop, Some, None, Err, add-one, refl, sym, ap, subst, arith}
use Rattle.std.proofs.lemmas.List.{append-nil, length-map, length-take-le, take-append-drop}
use Rattle.std.proofs.lemmas.List.Elements.{filter_more}
use Rattle.std.proofs.Math.Seq.{drop-cons}
use Rattle.std.specs.Borrow.{Bor}
use Rattle.std.specs.List.{AllZip}
use Rattle.world.specs.declared.event.Event.{Event}
use Rattle.world.specs.declared.event.Event.TheVariants.{Publish}
use Rattle.scripts.specs.declared.line.LineError.{LineError}
use Rattle.scripts.specs.declared.line.LineError.TheVariants as fault
use Rattle.scripts.specs.Line.{IsScriptFault, ReadsLine, texts, told_at}
use Rattle.scripts.specs.Script.{AreEvents, Finds, FindsTheSame, IsEvent, IsEventOf, IsFirstRefused, IsUnreadable, is_read, lines, words}

AllZip-last : {A B : Type 0} (R : A → B → Type 0) (xs : List A) (ys : List B) (x : A) (y : B) → AllZip R xs ys → R x y → AllZip R (xs ++ x ∷ []) (ys ++ y ∷ [])
AllZip-last R [] [] x y all last = (last, tt)
AllZip-last R [] (_ ∷ _) x y all last = absurd all
AllZip-last R (_ ∷ _) [] x y all last = absurd all
AllZip-last R (_ ∷ xs) (_ ∷ ys) x y all last = (all.0, AllZip-last R xs ys x y all.1 last)

-- ---- a source that finds what it found

IsEvent-kept : (old new : Finds) → FindsTheSame old new → (words : List (List ℕ)) (event : Event) → IsEvent new words event → IsEvent old words event
IsEvent-kept old new kept words (Publish name file) h = (h.0, h.1, (kept h.0 (Some file.items)).0 h.2)
IsEvent-kept old new kept words _ h = h

IsUnreadable-kept : (old new : Finds) → FindsTheSame old new → (line : List ℕ) → IsUnreadable new line → IsUnreadable old line
IsUnreadable-kept old new kept line h =
    record { NAME = h.NAME; PATH = h.PATH; plain = h.plain; publishes = h.publishes; missing = (kept h.PATH None).0 h.missing }

-- ---- one more line

-- a line that is passed over
pub AreEvents-passed : (finds : Finds) (all : List (List ℕ)) (n : ℕ) (line : List ℕ) (events : List Event) → n < length all → line ≡ get_or all n line → is_read line ≡ false → AreEvents finds (take n all) events → AreEvents finds (take (n + 1) all) events
AreEvents-passed finds all n line events fits is passed read =
    let kept : filter is_read (take (n + 1) all) ≡ filter is_read (take n all) = rw (filter_more is_read all n line fits, ← is, passed, append-nil) refl in
    subst (λ (asked : List (List ℕ)). AllZip (IsEventOf finds) asked events) (sym kept) read

-- a line that is read
pub AreEvents-more : (finds now : Finds) → FindsTheSame finds now → (all : List (List ℕ)) (n : ℕ) (line : List ℕ) (events : List Event) (event : Event) → n < length all → line ≡ get_or all n line → is_read line ≡ true → AreEvents finds (take n all) events → IsEventOf now line event → AreEvents finds (take (n + 1) all) (events ++ event ∷ [])
AreEvents-more finds now same all n line events event fits is asked read one =
    let more : filter is_read (take (n + 1) all) ≡ filter is_read (take n all) ++ line ∷ [] = rw (filter_more is_read all n line fits, ← is, asked) refl in
    subst (λ (lines : List (List ℕ)). AllZip (IsEventOf finds) lines (events ++ event ∷ [])) (sym more)
    (AllZip-last (IsEventOf finds) (filter is_read (take n all)) events line event read (one.0, IsEvent-kept finds now same (words line) event one.1))

-- ---- the first line that isn't read

parted : (all : List (List ℕ)) (n : ℕ) (line : List ℕ) → n < length all → line ≡ get_or all n line → all ≡ take n all ++ line ∷ drop (n + 1) all
parted all n line fits is =
    sym (take-append-drop n all) ∙ ap (λ (rest : List (List ℕ)). take n all ++ rest) (drop-cons all n line fits ∙ (rw (← is, ← add-one) refl))

-- the line behind those that are read is the first that is refused
refused_at : (finds : Finds) (text : List ℕ) (n : ℕ) (line : List ℕ) (events : List Event) (IsRefused : List ℕ → Type 0) → n < length (lines text) → line ≡ get_or (lines text) n line → is_read line ≡ true → AreEvents finds (take n (lines text)) events → IsRefused line → IsFirstRefused finds text (n + 1) IsRefused
refused_at finds text n line events IsRefused fits is asked read refused = record {
  before = take n (lines text);
  line = line;
  behind = drop (n + 1) (lines text);
  events = events;
  parted = parted (lines text) n line fits is;
  counted = ap (λ before. before + 1) (sym (length-take-le n (lines text) (omega arith)));
  earlier = read;
  asked = asked;
  refused = refused;
}

pub fault_at : (finds now : Finds) → FindsTheSame finds now → (text : List ℕ) (n : ℕ) (line : List ℕ) (events : List Event) (error : LineError) → n < length (lines text) → line ≡ get_or (lines text) n line → is_read line ≡ true → AreEvents finds (take n (lines text)) events → ReadsLine now line (Err error) → IsScriptFault finds text (told_at error (n + 1))
fault_at finds now same text n line events fault.NotAnEvent fits is asked read none = refused_at finds text n line events _ fits is asked read none
fault_at finds now same text n line events fault.CantRead fits is asked read missing = refused_at finds text n line events (IsUnreadable finds) fits is asked read (IsUnreadable-kept finds now same line missing)
fault_at finds now same text n line events fault.Memory fits is asked read _ = tt

-- ---- lines as the code lends them

text_at : (refs : List (Bor (List ℕ))) (n : ℕ) (d : Bor (List ℕ)) (e : List ℕ) → n < length refs → (get_or refs n d).now ≡ get_or (texts refs) n e
text_at [] n d e fits = absurd (omega arith)
text_at (_ ∷ _) zero d e fits = refl
text_at (_ ∷ refs) (suc n) d e fits = text_at refs n d e (omega arith)

within : (refs : List (Bor (List ℕ))) (n : ℕ) → n < length refs → n < length (texts refs)
within refs n fits = rw length-map fits

pub FindsTheSame-twice : (a b c : Finds) → FindsTheSame a b → FindsTheSame b c → FindsTheSame a c
FindsTheSame-twice a b c ab bc = λ path file. (λ h. (ab path file).0 ((bc path file).0 h), λ h. (bc path file).1 ((ab path file).1 h))

pub lent_line_passed : (finds : Finds) (refs : List (Bor (List ℕ))) (n : ℕ) (d : Bor (List ℕ)) (events : List Event) (tested : Bool) → n < length refs → tested ≡ is_read (get_or refs n d).now → tested ≡ false → AreEvents finds (take n (texts refs)) events → AreEvents finds (take (n + 1) (texts refs)) events
lent_line_passed finds refs n d events tested fits test is read =
    AreEvents-passed finds (texts refs) n (get_or refs n d).now events (within refs n fits) (text_at refs n d _ fits) (sym test ∙ is) read

pub lent_line_read : (finds now : Finds) → FindsTheSame finds now → (refs : List (Bor (List ℕ))) (n : ℕ) (d : Bor (List ℕ)) (events pushed : List Event) (event : Event) (tested : Bool) → n < length refs → tested ≡ is_read (get_or refs n d).now → tested ≡ true → AreEvents finds (take n (texts refs)) events → IsEventOf now (get_or refs n d).now event → pushed ≡ events ++ event ∷ [] → AreEvents finds (take (n + 1) (texts refs)) pushed
lent_line_read finds now same refs n d events pushed event tested fits test is read one push =
    rw push (AreEvents-more finds now same (texts refs) n (get_or refs n d).now events event (within refs n fits) (text_at refs n d _ fits) (sym test ∙ is) read one)

pub lent_line_refused : (finds now : Finds) → FindsTheSame finds now → (text : List ℕ) (refs : List (Bor (List ℕ))) → texts refs ≡ lines text → (n : ℕ) (d : Bor (List ℕ)) (events : List Event) (error : LineError) (tested : Bool) → n < length refs → tested ≡ is_read (get_or refs n d).now → tested ≡ true → AreEvents finds (take n (texts refs)) events → ReadsLine now (get_or refs n d).now (Err error) → IsScriptFault finds text (told_at error (n + 1))
lent_line_refused finds now same text refs all n d events error tested fits test is read refused =
    fault_at finds now same text n (get_or refs n d).now events error
    (subst (λ (ls : List (List ℕ)). n < length ls) all (within refs n fits))
    (text_at refs n d (get_or refs n d).now fits ∙ ap (λ (ls : List (List ℕ)). get_or ls n (get_or refs n d).now) all)
    (sym test ∙ is)
    (subst (λ (ls : List (List ℕ)). AreEvents finds (take n ls) events) all read)
    refused
