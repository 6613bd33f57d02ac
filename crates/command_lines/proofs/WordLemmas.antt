-- Words that are read one after another.
use Rattle.std.proofs.Common.{◌≡◌, ◌∙◌, ℕ, ◌+◌, ◌<◌, true, false, if◌then◌else◌, List, [], ◌∷◌, ◌++◌, length, get_or, drop, map, take, ap, codes, sym, append_assoc}
use Rattle.std.specs.Str.{bytes_eq}
use Rattle.std.specs.Char.{encode_utf8}
use Rattle.std.proofs.lemmas.List.{drop_more, map-append, take_more}
use Rattle.std.proofs.lemmas.Str.{encode_ascii}
use Rattle.command_lines.specs.FileWord.{expected_after, is_place, places}
use Rattle.command_lines.specs.QuickLine.{has_option, is_full, option_name, quick_app, start_app}
use Rattle.command_lines.specs.ServeLine.{serve_app}
use Rattle.command_lines.specs.declared.file_words.Expected.{Expected}

-- the word at this place, and those behind it
there : {X : Type 0} (text : X → List ℕ) (name : List ℕ) (words : List X) (k : ℕ) (d : X) → k < length words
    → has_option name (map text (drop k words)) ≡ has_option name (text (get_or words k d) ∷ map text (drop (k + 1) words))
there text name words k d within = ap (λ ws. has_option name (map text ws)) (drop_more words k d within)

-- a word `--`, after which no option stands
pub option_over : {X : Type 0} (text : X → List ℕ) (name : List ℕ) (words : List X) (k : ℕ) (d : X) → k < length words
    → bytes_eq (text (get_or words k d)) (codes "--") ≡ true → has_option name (map text (drop k words)) ≡ false
option_over text name words k d within over =
    there text name words k d within
    ∙ ap (λ b. if b then false else if bytes_eq (option_name (text (get_or words k d))) name then true else has_option name (map text (drop (k + 1) words))) over

-- the option
pub option_there : {X : Type 0} (text : X → List ℕ) (name : List ℕ) (words : List X) (k : ℕ) (d : X) → k < length words
    → bytes_eq (text (get_or words k d)) (codes "--") ≡ false → bytes_eq (option_name (text (get_or words k d))) name ≡ true
    → has_option name (map text (drop k words)) ≡ true
option_there text name words k d within on is =
    there text name words k d within
    ∙ ap (λ b. if b then false else if bytes_eq (option_name (text (get_or words k d))) name then true else has_option name (map text (drop (k + 1) words))) on
    ∙ ap (λ b. if b then true else has_option name (map text (drop (k + 1) words))) is

-- another word
pub option_behind : {X : Type 0} (text : X → List ℕ) (name : List ℕ) (words : List X) (k : ℕ) (d : X) → k < length words
    → bytes_eq (text (get_or words k d)) (codes "--") ≡ false → bytes_eq (option_name (text (get_or words k d))) name ≡ false
    → has_option name (map text (drop k words)) ≡ has_option name (map text (drop (k + 1) words))
option_behind text name words k d within on other =
    there text name words k d within
    ∙ ap (λ b. if b then false else if bytes_eq (option_name (text (get_or words k d))) name then true else has_option name (map text (drop (k + 1) words))) on
    ∙ ap (λ b. if b then true else has_option name (map text (drop (k + 1) words))) other

-- the place of a word, behind those before it
pub next_place : {X : Type 0} (text : X → List ℕ) (words : List X) (k : ℕ) (d : X) (expected : Expected) (old new all : List ℕ) → k < length words
    → old ++ places expected k (map text (drop k words)) ≡ all
    → new ≡ old ++ (if is_place expected (text (get_or words k d)) then k ∷ [] else [])
    → new ++ places (expected_after expected (text (get_or words k d))) (k + 1) (map text (drop (k + 1) words)) ≡ all
next_place text words k d expected old new all within before is =
    let rest = places (expected_after expected (text (get_or words k d))) (k + 1) (map text (drop (k + 1) words)) in
    ap (λ n. n ++ rest) is ∙ append_assoc old _ rest
    ∙ ap (λ ws. old ++ places expected k (map text ws)) (sym (drop_more words k d within)) ∙ before

-- the command of words, by their form
pub of_full : (words : List (List ℕ)) → is_full words ≡ true → serve_app ≡ start_app words
of_full words full = sym (ap (λ b. if b then serve_app else quick_app) full)

pub of_quick : (words : List (List ℕ)) → is_full words ≡ false → quick_app ≡ start_app words
of_quick words quick = sym (ap (λ b. if b then serve_app else quick_app) quick)

-- one more byte of a name
pub next_byte : (f : ℕ → ℕ) (bytes : List ℕ) (k d : ℕ) (old new : List ℕ) (c : ℕ) → k < length bytes → old ≡ map f (take k bytes) → c < 128
    → c ≡ f (get_or bytes k d) → new ≡ old ++ encode_utf8 c → new ≡ map f (take (k + 1) bytes)
next_byte f bytes k d old new c within before ascii is longer =
    longer ∙ ap (λ e. old ++ e) (encode_ascii c ascii) ∙ ap (λ x. old ++ x ∷ []) is ∙ ap (λ o. o ++ f (get_or bytes k d) ∷ []) before
    ∙ sym (ap (map f) (take_more bytes k d within) ∙ map-append f (take k bytes) (get_or bytes k d ∷ []))
