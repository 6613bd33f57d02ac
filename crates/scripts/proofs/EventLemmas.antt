-- The words of events' lines: their first one, and what is left behind it.
use Rattle.std.proofs.Common.{◌≡◌, ◌≢◌, ◌∙◌, ◌⊎◌, ⊎_elim, ℕ, Bool, ◌-◌, ◌<◌, ◌≤◌, true, false, true≢false, List, [], ◌∷◌, codes, length, get_or, take, drop, Result, Ok, Err, refl, sym, ap, subst, inl, inr, arith}
use Rattle.std.proofs.lemmas.List.{take_all}
use Rattle.std.proofs.lemmas.Slice.Eq.{bytes_eq-Decides}
use Rattle.std.specs.Borrow.{Bor}
use Rattle.std.specs.Str.{bytes_eq}
use Rattle.tiff_dir.specs.declared.query.Pick.{Pick}
use Rattle.tiff_dir.specs.declared.query.Query.{Query}
use Rattle.tiff_dir.specs.declared.query.Query.TheVariants.{Window, Info}
use Rattle.world.specs.declared.event.Event.{Event}
use Rattle.world.specs.declared.event.Event.TheVariants.{Publish, Epoch, NewClient, Open, Forget, Ask, AskFrom, Deliver, Exchange, Check}
use Rattle.scripts.specs.declared.line.LineError.{LineError}
use Rattle.scripts.specs.declared.line.LineError.TheVariants as fault
use Rattle.scripts.specs.declared.verb.Verb.{Verb}
use Rattle.scripts.specs.declared.verb.Verb.TheVariants as verbs
use Rattle.scripts.specs.Line.{IsOnlyNumber, IsWindow, NoFile, Reads, ReadsWords, texts}
use Rattle.scripts.specs.Script.{Anything, AreNumbers, Finds, IsEvent, IsPick, IsQuery}
use Rattle.scripts.specs.Verb.{word_of}

-- the first of some words, and the others as the code takes them
pub texts-first : (words : List (Bor (List ℕ))) (d : Bor (List ℕ)) → 1 ≤ length words → texts words ≡ (get_or words 0 d).now ∷ texts (take (length words - 1) (drop 1 words))
texts-first [] d some = absurd (omega arith)
texts-first (word ∷ words) d some = rw (take_all (length (word ∷ words) - 1) words (omega arith)) refl

-- six words, as the code takes them
pub texts-six : (words : List (Bor (List ℕ))) (d : Bor (List ℕ)) → 6 ≤ length words → length words < 7 → texts words ≡ (get_or words 0 d).now ∷ (get_or words 1 d).now ∷ (get_or words 2 d).now ∷ (get_or words 3 d).now ∷ (get_or words 4 d).now ∷ (get_or words 5 d).now ∷ []
texts-six (_ ∷ _ ∷ _ ∷ _ ∷ _ ∷ _ ∷ []) d some few = refl
texts-six [] d some few = absurd (omega arith)
texts-six (_ ∷ []) d some few = absurd (omega arith)
texts-six (_ ∷ _ ∷ []) d some few = absurd (omega arith)
texts-six (_ ∷ _ ∷ _ ∷ []) d some few = absurd (omega arith)
texts-six (_ ∷ _ ∷ _ ∷ _ ∷ []) d some few = absurd (omega arith)
texts-six (_ ∷ _ ∷ _ ∷ _ ∷ _ ∷ []) d some few = absurd (omega arith)
texts-six (_ ∷ _ ∷ _ ∷ _ ∷ _ ∷ _ ∷ _ ∷ _) d some few = absurd (omega arith)

same_head : {a b : List ℕ} {xs ys : List (List ℕ)} → a ∷ xs ≡ b ∷ ys → a ≡ b
same_head e = cc

same_tail : {a b : List ℕ} {xs ys : List (List ℕ)} → a ∷ xs ≡ b ∷ ys → xs ≡ ys
same_tail e = cc

-- two words that differ begin no common line
differs : {a b : List ℕ} {xs ys : List (List ℕ)} → a ∷ xs ≡ b ∷ ys → bytes_eq a b ≡ false → ⊥
differs {a} {b} e apart = true≢false (sym ((bytes_eq-Decides a b).1 (same_head e)) ∙ apart)

-- what is read behind a fault, if it says more
pub Reads-fault : {T U : Type 0} (P : T → Type 0) (Q : U → Type 0) (e : LineError) → ((u : U) → Q u → (t : T) × P t) → Reads P (Err e) → Reads Q (Err e)
Reads-fault P Q fault.NotAnEvent more none = λ u q. let h = more u q in none h.0 h.1
Reads-fault P Q fault.CantRead more none = none
Reads-fault P Q fault.Memory more none = none

-- ---- queries

sides_of_query : (words : List (List ℕ)) (kind N X Y W H : List ℕ) (pick : Pick) → words ≡ kind ∷ N ∷ X ∷ Y ∷ W ∷ H ∷ [] → (query : Query) → IsQuery words query → (window : Query) × IsWindow pick (X ∷ Y ∷ W ∷ H ∷ []) window
sides_of_query words kind N X Y W H pick e (Window x y w h _) q =
    let same = same_tail (same_tail (sym q.6 ∙ e)) in
    (Window x y w h pick, (subst (λ (sides : List (List ℕ)). AreNumbers sides (x ∷ y ∷ w ∷ h ∷ [])) same q.8, refl))
sides_of_query words kind N X Y W H pick e Info q = let same = same_tail (sym q ∙ e) in absurd (cc)

-- a window whose level was picked is a query
pub query_from_window : (words : List (List ℕ)) (kind N X Y W H : List ℕ) (pick : Pick) (r : Result Query LineError) → words ≡ kind ∷ N ∷ X ∷ Y ∷ W ∷ H ∷ [] → IsPick kind N pick → Reads (IsWindow pick (X ∷ Y ∷ W ∷ H ∷ [])) r → Reads (IsQuery words) r
query_from_window words kind N X Y W H pick (Ok (Window x y w h chosen)) e picked window = (kind, N, X, Y, W, H, e, subst (IsPick kind N) (sym window.1) picked, window.0)
query_from_window words kind N X Y W H pick (Ok Info) e picked window = absurd window
query_from_window words kind N X Y W H pick (Err told) e picked window =
    Reads-fault (IsWindow pick (X ∷ Y ∷ W ∷ H ∷ [])) (IsQuery words) told (sides_of_query words kind N X Y W H pick e) window

-- ---- the lines that have one number

pub epoch_alone : (rest : List (List ℕ)) (event : Event) → IsEvent NoFile (codes "epoch" ∷ rest) event → (n : ℕ) × IsOnlyNumber rest n
epoch_alone rest (Epoch n) h = (n, (h.0, same_tail h.1, h.2))
epoch_alone rest (Publish _ _) h = absurd h.2
epoch_alone rest (Open _ _) h = absurd (differs h.2 refl)
epoch_alone rest (Deliver _ _ _) h = absurd (differs h.3 refl)
epoch_alone rest _ h = absurd (differs h.1 refl)

pub forget_alone : (rest : List (List ℕ)) (event : Event) → IsEvent NoFile (codes "forget" ∷ rest) event → (n : ℕ) × IsOnlyNumber rest n
forget_alone rest (Forget n) h = (n, (h.0, same_tail h.1, h.2))
forget_alone rest (Publish _ _) h = absurd h.2
forget_alone rest (Open _ _) h = absurd (differs h.2 refl)
forget_alone rest (Deliver _ _ _) h = absurd (differs h.3 refl)
forget_alone rest _ h = absurd (differs h.1 refl)

pub askfrom_alone : (rest : List (List ℕ)) (event : Event) → IsEvent NoFile (codes "askfrom" ∷ rest) event → (n : ℕ) × IsOnlyNumber rest n
askfrom_alone rest (AskFrom n) h = (n, (h.0, same_tail h.1, h.2))
askfrom_alone rest (Publish _ _) h = absurd h.2
askfrom_alone rest (Open _ _) h = absurd (differs h.2 refl)
askfrom_alone rest (Deliver _ _ _) h = absurd (differs h.3 refl)
askfrom_alone rest _ h = absurd (differs h.1 refl)

pub exchange_alone : (rest : List (List ℕ)) (event : Event) → IsEvent NoFile (codes "exchange" ∷ rest) event → (n : ℕ) × IsOnlyNumber rest n
exchange_alone rest (Exchange n) h = (n, (h.0, same_tail h.1, h.2))
exchange_alone rest (Publish _ _) h = absurd h.2
exchange_alone rest (Open _ _) h = absurd (differs h.2 refl)
exchange_alone rest (Deliver _ _ _) h = absurd (differs h.3 refl)
exchange_alone rest _ h = absurd (differs h.1 refl)

pub check_alone : (rest : List (List ℕ)) (event : Event) → IsEvent NoFile (codes "check" ∷ rest) event → (n : ℕ) × IsOnlyNumber rest n
check_alone rest (Check n) h = (n, (h.0, same_tail h.1, h.2))
check_alone rest (Publish _ _) h = absurd h.2
check_alone rest (Open _ _) h = absurd (differs h.2 refl)
check_alone rest (Deliver _ _ _) h = absurd (differs h.3 refl)
check_alone rest _ h = absurd (differs h.1 refl)

-- what is told of the number is told of the line
pub refused_by_number : (kind verb : Verb) (rest : List (List ℕ)) (r : Result Event LineError) (told e : LineError) → verb ≡ kind → ((event : Event) → IsEvent NoFile (word_of kind ∷ rest) event → (n : ℕ) × IsOnlyNumber rest n) → r ≡ Err told → told ≡ e → Reads (IsOnlyNumber rest) (Err e) → Reads (IsEvent NoFile (word_of verb ∷ rest)) r
refused_by_number kind verb rest r told e same alone is_err is_e none =
    rw (same, is_err, is_e) (Reads-fault (IsOnlyNumber rest) (IsEvent NoFile (word_of kind ∷ rest)) e alone none)

-- ---- all lines

from_no_file : (finds : Finds) (words : List (List ℕ)) (event : Event) → IsEvent NoFile words event → IsEvent finds words event
from_no_file finds words (Publish _ _) h = absurd h.2
from_no_file finds words _ h = h

to_no_file : (first : List ℕ) (rest : List (List ℕ)) → first ≢ codes "publish" → (event : Event) → IsEvent Anything (first ∷ rest) event → IsEvent NoFile (first ∷ rest) event
to_no_file first rest other (Publish _ _) h = absurd (other (same_head h.1))
to_no_file first rest other _ h = h

-- words that don't publish are the same event whatever a source finds
pub words_without_file : (finds : Finds) (first : List ℕ) (rest : List (List ℕ)) (r : Result Event LineError) → first ≢ codes "publish" → Reads (IsEvent NoFile (first ∷ rest)) r → ReadsWords finds (first ∷ rest) r
words_without_file finds first rest (Ok event) other h = from_no_file finds (first ∷ rest) event h
words_without_file finds first rest (Err fault.NotAnEvent) other h = λ event fits. h event (to_no_file first rest other event fits)
words_without_file finds first rest (Err fault.CantRead) other h = absurd h
words_without_file finds first rest (Err fault.Memory) other h = h

-- a line of an event begins with `publish` or a verb
pub begins_with_verb : (first : List ℕ) (rest : List (List ℕ)) (event : Event) → IsEvent Anything (first ∷ rest) event → (first ≡ codes "publish") ⊎ ((verb : Verb) × (first ≡ word_of verb))
begins_with_verb first rest (Publish _ _) h = inl (same_head h.1)
begins_with_verb first rest (Epoch _) h = inr (verbs.Epoch, same_head h.1)
begins_with_verb first rest (NewClient _ _) h = inr (verbs.Client, same_head h.1)
begins_with_verb first rest (Open _ _) h = inr (verbs.Open, same_head h.2)
begins_with_verb first rest (Forget _) h = inr (verbs.Forget, same_head h.1)
begins_with_verb first rest (Ask _) h = inr (verbs.Ask, same_head h.1)
begins_with_verb first rest (AskFrom _) h = inr (verbs.AskFrom, same_head h.1)
begins_with_verb first rest (Deliver _ _ _) h = inr (verbs.Deliver, same_head h.3)
begins_with_verb first rest (Exchange _) h = inr (verbs.Exchange, same_head h.1)
begins_with_verb first rest (Check _) h = inr (verbs.Check, same_head h.1)

-- ---- words as the code tests them

-- the words behind the first one
abbrev pub behind : List (Bor (List ℕ)) → List (List ℕ)
behind words = texts (take (length words - 1) (drop 1 words))

pub publishes : (words : List (Bor (List ℕ))) (d : Bor (List ℕ)) (tested : Bool) (name : List ℕ) → name ≡ codes "publish" → tested ≡ bytes_eq (get_or words 0 d).now name → tested ≡ true → 1 ≤ length words → texts words ≡ codes "publish" ∷ behind words
publishes words d tested name is test so some =
    let same = (bytes_eq-Decides (get_or words 0 d).now name).0 (sym test ∙ so) in
    texts-first words d some ∙ ap (λ first. first ∷ behind words) (same ∙ is)

pub publishes_not : (words : List (Bor (List ℕ))) (d : Bor (List ℕ)) (tested : Bool) (name : List ℕ) → name ≡ codes "publish" → tested ≡ bytes_eq (get_or words 0 d).now name → tested ≡ false → (get_or words 0 d).now ≢ codes "publish"
publishes_not words d tested name is test not_so same =
    true≢false (sym ((bytes_eq-Decides (get_or words 0 d).now name).1 (same ∙ sym is)) ∙ (sym test ∙ not_so))

pub words_of_verb : (finds : Finds) (words : List (Bor (List ℕ))) (d : Bor (List ℕ)) (verb : Verb) (r : Result Event LineError) → 1 ≤ length words → (get_or words 0 d).now ≡ word_of verb → (get_or words 0 d).now ≢ codes "publish" → Reads (IsEvent NoFile (word_of verb ∷ behind words)) r → ReadsWords finds (texts words) r
words_of_verb finds words d verb r some is other h =
    rw (texts-first words d some) (words_without_file finds (get_or words 0 d).now (behind words) r other (rw is h))

pub words_of_no_verb : (words : List (Bor (List ℕ))) (d : Bor (List ℕ)) → 1 ≤ length words → (get_or words 0 d).now ≢ codes "publish" → ((verb : Verb) → (get_or words 0 d).now ≢ word_of verb) → (event : Event) → IsEvent Anything (texts words) event → ⊥
words_of_no_verb words d some other none event h =
    let begins = begins_with_verb (get_or words 0 d).now (behind words) event (rw (texts-first words d some) at h) in
    ⊎_elim other (λ v. none v.0 v.1) begins
