-- What a parse of a command gives: each word that has to stand is there.
use Rattle.std.proofs.Common.{◌≡◌, ◌≢◌, ◌∙◌, ◌<◌, ◌≤◌, ◌&&◌, ◌⊎◌, ℕ, zero, suc, Bool, true, false, not, List, [], ◌∷◌, length, map, nat_eq, Option, Some, None, Result, Ok, Err, is_some, IfErr, IsErrAnd, codes, option_map, unwrap_or, refl, sym, ap, ap₂, subst, Box, inl, inr, arith, true≢false}
use Rattle.std.specs.Borrow.{Bor}
use Rattle.std.specs.Box.{box_value}
use Rattle.std.specs.List.{slice_index_or}
use Rattle.std.specs.Str.{bytes_eq}
use Rattle.std.proofs.lemmas.List.{get_or-map, length-map}
use Rattle.clap.specs.Facts.{unwrap_or_range}
use Rattle.clap.specs.Words.{App, FailsBy, HasKind, IsParsedFrom, IsPlain, IsPlainArg, Kinds, Row, Rule, all_of, app_of, args_of, first_of, first_value, found_of, is_simple, is_simple_and_free, matched_of, one_of, one_text, raw_values, rows_of, rule_of, subcommand_rows}
use Rattle.clap.specs.Walk.{is_empty, is_free_arg, is_simple_arg}
use Rattle.clap.specs.declared.builder.arg.Arg.{Arg}
use Rattle.clap.specs.declared.builder.command.Command.{Command}
use Rattle.clap.specs.declared.builder.command.Command.TheViews.{out-Command}
use Rattle.clap.specs.declared.builder.range.ValueRange.{ValueRange}
use Rattle.clap.specs.declared.error.Error.{Error}
use Rattle.clap.specs.declared.parser.matches.ArgMatches.{ArgMatches}
use Rattle.clap.specs.declared.parser.matches.ArgMatches.TheViews.{out-SubCommand}
use Rattle.clap.specs.declared.parser.matches.SubCommand.{SubCommand}
use Rattle.clap.specs.declared.parser.matches.Found.{Found}
use Rattle.clap.proofs.SimpleLemmas.{is_false, is_nil}
use Rattle.clap.proofs.OnLiterals.{clap_on_literals}
use Rattle.clap.proofs.WalkLemmas.{both, first_value-rows, one_text-rows, raw_values-rows}
use Rattle.clap.proofs.CallerLemmas.{present_has_entry, required_has_value, required_present}
use Rattle.clap.specs.declared.builder.action.ArgAction.TheVariants.{Set}
use Rattle.command_lines.specs.ReadLine.{AreHeaders, Asks, AsksDescription, AsksWindow, HasFound, HasLine, IsOfFour, word_of}
use Rattle.command_lines.specs.ServeLine.{Tells, choice, flag, option, serve_app, serve_app_of, valued, words}
use Rattle.command_lines.specs.declared.read.AskedWords.{AskedWords}
use Rattle.command_lines.specs.declared.read.AskedWords.TheVariants.{Info}
use Rattle.command_lines.specs.declared.read.ReadLine.{ReadLine}
use Rattle.command_lines.specs.WorldLine.{word, world_app}

no_some : {X : Type 0} (o : Option X) → not (is_some o) ≡ true → o ≡ None
no_some None e = refl
no_some (Some x) e = absurd (true≢false (sym e))

head : {X : Type 0} (xs : List X) → 0 < length xs → X
head [] some = absurd (omega arith)
head (x ∷ xs) some = x

-- the argument has no rule on another
abbrev is_alone : Rule → Bool
is_alone r = r.is_simple && r.is_free

-- No argument of the command has a rule on another, and no setting changes how words are read.
record IsAlone (a : App) : Type 0 where
  some : 0 < length a.top.rules
  rules : (k : ℕ) (d : Rule) → k < length a.top.rules → is_alone (slice_index_or a.top.rules k d) ≡ true
  plain : a.top.is_plain ≡ true
  strict : a.top.subcommand_negates_reqs ≡ false

-- the argument of this name has to stand, with one value
record IsNeeded (name : List ℕ) (r : Rule) : Type 0 where
  id : r.id ≡ name
  required : r.required ≡ true
  action : r.action ≡ Some Set
  range : r.range ≡ None
  alone : is_alone r ≡ true

plain_arg : (a : Arg) → is_alone (rule_of a) ≡ true → IsPlainArg a
plain_arg a e =
    let simple : is_simple_arg a ≡ true = (both _ _ e).0 in
    let free : is_free_arg a ≡ true = (both _ _ e).1 in
    let exclusive = both _ _ free in
    let overrides = both _ _ simple in
    let groups = both _ _ (both _ _ overrides.1).1 in
    (is_false _ exclusive.0, is_nil _ (both _ _ exclusive.1).0, is_nil _ overrides.0, is_nil _ groups.0)

no_delimiter : (a : Arg) → is_alone (rule_of a) ≡ true → a.val_delim ≡ None
no_delimiter a e =
    let simple : is_simple_arg a ≡ true = (both _ _ e).0 in
    let overrides = both (is_empty a.overrides.items) _ simple in
    let defaults = both (is_empty a.default_vals_ifs.items) _ overrides.1 in
    let groups = both (is_empty a.groups.items) _ defaults.1 in
    let rest = not (is_some a.terminator) && (not a.allow_hyphen_values && (not a.allow_negative_numbers && (not a.require_equals && (not a.last && not a.global)))) in
    let delimiter = both (not (is_some a.val_delim)) rest groups.1 in
    no_some _ delimiter.0

module _ (a : App) (alone : IsAlone a) (c : Command) (e : app_of c ≡ a) where
  rules_are : map rule_of (args_of c) ≡ a.top.rules
  rules_are = ap (λ (x : App). x.top.rules) e

  as_many : length (args_of c) ≡ length a.top.rules
  as_many = sym (length-map (args_of c) rule_of) ∙ ap length rules_are

  rule_at : (k : ℕ) (d : Arg) → k < length (args_of c) → rule_of (slice_index_or (args_of c) k d) ≡ slice_index_or a.top.rules k (rule_of d)
  rule_at k d low =
      sym (get_or-map rule_of (args_of c) k d (rule_of d) low) ∙ ap (λ (rs : List Rule). slice_index_or rs k (rule_of d)) rules_are

  plain : IsPlain c
  plain = (
    λ k d low. plain_arg (slice_index_or (args_of c) k d) (ap is_alone (rule_at k d low) ∙ alone.rules k (rule_of d) (omega (arith, as_many))),
    is_nil _ (both _ _ (ap (λ (x : App). x.top.is_plain) e ∙ alone.plain)).0,
  )

  local : (out-Command c).has_globals ≡ false
  local = is_false _ (both _ _ (both _ _ (both _ _ (ap (λ (x : App). x.top.is_plain) e ∙ alone.plain)).1).1).0

  strict : (out-Command c).subcommand_negates_reqs ≡ false
  strict = ap (λ (x : App). x.top.subcommand_negates_reqs) e ∙ alone.strict

  some_argument : Arg
  some_argument = let some = alone.some in head (args_of c) (omega (arith, as_many))

  -- an argument that has to stand has a value
  there : (m : ArgMatches) (name : List ℕ) (k : ℕ) → IsParsedFrom c m → k < length a.top.rules
      → ((d : Rule) → IsNeeded name (slice_index_or a.top.rules k d))
      → ((j : ℕ) (d : Rule) → j < length a.top.rules → bytes_eq (slice_index_or a.top.rules j d).id name ≡ true → j ≡ k)
      → (name ≡ [] → ⊥) → ((name ≡ codes "help") ⊎ (name ≡ codes "version") → ⊥)
      → is_some (first_value (found_of m) name) ≡ true
  there m name k p low is only named own =
      let d = some_argument in
      let within : k < length (args_of c) = omega (arith, as_many) in
      let x = slice_index_or (args_of c) k d in
      let rule : rule_of x ≡ slice_index_or a.top.rules k (rule_of d) = rule_at k d within in
      let needed = is (rule_of d) in
      let id : x.id.now ≡ name = ap (λ (r : Rule). r.id) rule ∙ needed.id in
      let least : 1 ≤ (unwrap_or_range x.num_vals).start_inclusive =
      subst (λ (o : Option ValueRange). 1 ≤ (unwrap_or_range o).start_inclusive) (sym (ap (λ (r : Rule). r.range) rule ∙ needed.range)) (omega arith) in
      let unique : (j : ℕ) (y : Arg) → j < length (args_of c) → bytes_eq (slice_index_or (args_of c) j y).id.now x.id.now ≡ true → j ≡ k =
      λ j y at same. only j (rule_of y) (omega (arith, as_many))
      (ap₂ bytes_eq (sym (ap (λ (r : Rule). r.id) (rule_at j y at))) (sym id) ∙ same) in
      let has : is_some (first_value (found_of m) x.id.now) ≡ true =
      required_has_value c m p plain local strict k d within (ap (λ (r : Rule). r.required) rule ∙ needed.required)
      (ap (λ (r : Rule). r.action) rule ∙ needed.action) (no_delimiter x (ap is_alone rule ∙ needed.alone)) least unique
      (λ empty. named (sym id ∙ empty))
      (λ auto. own (elim auto [ inl h ↦ inl (sym id ∙ h) | inr h ↦ inr (sym id ∙ h) ])) in
      subst (λ (n : List ℕ). is_some (first_value (found_of m) n) ≡ true) id has

abbrev rules_of : (needed : Bool) → List Rule
rules_of needed = valued needed (codes "listen") ∷ valued needed (codes "epoch") ∷ valued needed (codes "connections") ∷ words (codes "files")
    ∷ choice (codes "at-once") ∷ choice (codes "patience") ∷ choice (codes "allow-origin") ∷ flag (codes "announce-last") ∷ choice (codes "verify")
    ∷ flag (codes "log") ∷ []

alone_at : (needed : Bool) (k : ℕ) (d : Rule) → k < 10 → is_alone (slice_index_or (rules_of needed) k d) ≡ true
alone_at needed zero d low = refl
alone_at needed (suc zero) d low = refl
alone_at needed (suc (suc zero)) d low = refl
alone_at needed (suc (suc (suc zero))) d low = refl
alone_at needed (suc (suc (suc (suc zero)))) d low = refl
alone_at needed (suc (suc (suc (suc (suc zero))))) d low = refl
alone_at needed (suc (suc (suc (suc (suc (suc zero)))))) d low = refl
alone_at needed (suc (suc (suc (suc (suc (suc (suc zero))))))) d low = refl
alone_at needed (suc (suc (suc (suc (suc (suc (suc (suc zero)))))))) d low = refl
alone_at needed (suc (suc (suc (suc (suc (suc (suc (suc (suc zero))))))))) d low = refl
alone_at needed (suc (suc (suc (suc (suc (suc (suc (suc (suc (suc k)))))))))) d low = absurd (omega arith)

abbrev rules : List Rule
rules = rules_of true

serve_alone : (needed : Bool) → IsAlone (serve_app_of needed)
unfolding serve_app_of
serve_alone needed = record { some = omega arith; rules = alone_at needed; plain = refl; strict = refl }

option_needed : (name : List ℕ) → IsNeeded name (option name)
option_needed name = record { id = refl; required = refl; action = refl; range = refl; alone = refl }

only_listen : (j : ℕ) (d : Rule) → j < 10 → bytes_eq (slice_index_or rules j d).id (codes "listen") ≡ true → j ≡ 0
only_listen zero d low same = refl
only_listen (suc zero) d low same = absurd (true≢false (sym same))
only_listen (suc (suc zero)) d low same = absurd (true≢false (sym same))
only_listen (suc (suc (suc zero))) d low same = absurd (true≢false (sym same))
only_listen (suc (suc (suc (suc zero)))) d low same = absurd (true≢false (sym same))
only_listen (suc (suc (suc (suc (suc zero))))) d low same = absurd (true≢false (sym same))
only_listen (suc (suc (suc (suc (suc (suc zero)))))) d low same = absurd (true≢false (sym same))
only_listen (suc (suc (suc (suc (suc (suc (suc zero))))))) d low same = absurd (true≢false (sym same))
only_listen (suc (suc (suc (suc (suc (suc (suc (suc zero)))))))) d low same = absurd (true≢false (sym same))
only_listen (suc (suc (suc (suc (suc (suc (suc (suc (suc zero))))))))) d low same = absurd (true≢false (sym same))
only_listen (suc (suc (suc (suc (suc (suc (suc (suc (suc (suc k)))))))))) d low same = absurd (omega arith)

only_epoch : (j : ℕ) (d : Rule) → j < 10 → bytes_eq (slice_index_or rules j d).id (codes "epoch") ≡ true → j ≡ 1
only_epoch zero d low same = absurd (true≢false (sym same))
only_epoch (suc zero) d low same = refl
only_epoch (suc (suc zero)) d low same = absurd (true≢false (sym same))
only_epoch (suc (suc (suc zero))) d low same = absurd (true≢false (sym same))
only_epoch (suc (suc (suc (suc zero)))) d low same = absurd (true≢false (sym same))
only_epoch (suc (suc (suc (suc (suc zero))))) d low same = absurd (true≢false (sym same))
only_epoch (suc (suc (suc (suc (suc (suc zero)))))) d low same = absurd (true≢false (sym same))
only_epoch (suc (suc (suc (suc (suc (suc (suc zero))))))) d low same = absurd (true≢false (sym same))
only_epoch (suc (suc (suc (suc (suc (suc (suc (suc zero)))))))) d low same = absurd (true≢false (sym same))
only_epoch (suc (suc (suc (suc (suc (suc (suc (suc (suc zero))))))))) d low same = absurd (true≢false (sym same))
only_epoch (suc (suc (suc (suc (suc (suc (suc (suc (suc (suc k)))))))))) d low same = absurd (omega arith)

only_connections : (j : ℕ) (d : Rule) → j < 10 → bytes_eq (slice_index_or rules j d).id (codes "connections") ≡ true → j ≡ 2
only_connections zero d low same = absurd (true≢false (sym same))
only_connections (suc zero) d low same = absurd (true≢false (sym same))
only_connections (suc (suc zero)) d low same = refl
only_connections (suc (suc (suc zero))) d low same = absurd (true≢false (sym same))
only_connections (suc (suc (suc (suc zero)))) d low same = absurd (true≢false (sym same))
only_connections (suc (suc (suc (suc (suc zero))))) d low same = absurd (true≢false (sym same))
only_connections (suc (suc (suc (suc (suc (suc zero)))))) d low same = absurd (true≢false (sym same))
only_connections (suc (suc (suc (suc (suc (suc (suc zero))))))) d low same = absurd (true≢false (sym same))
only_connections (suc (suc (suc (suc (suc (suc (suc (suc zero)))))))) d low same = absurd (true≢false (sym same))
only_connections (suc (suc (suc (suc (suc (suc (suc (suc (suc zero))))))))) d low same = absurd (true≢false (sym same))
only_connections (suc (suc (suc (suc (suc (suc (suc (suc (suc (suc k)))))))))) d low same = absurd (omega arith)

pub listen_there : (c : Command) (m : ArgMatches) → app_of c ≡ serve_app → IsParsedFrom c m
    → is_some (first_value (found_of m) (codes "listen")) ≡ true
unfolding serve_app_of
listen_there c m e p = there serve_app (serve_alone true) c e m (codes "listen") 0 p (omega arith) (λ d. option_needed (codes "listen")) only_listen
    (λ no. absurd (cc)) (λ no. elim no [ inl h ↦ cc | inr h ↦ cc ])

pub epoch_there : (c : Command) (m : ArgMatches) → app_of c ≡ serve_app → IsParsedFrom c m
    → is_some (first_value (found_of m) (codes "epoch")) ≡ true
unfolding serve_app_of
epoch_there c m e p = there serve_app (serve_alone true) c e m (codes "epoch") 1 p (omega arith) (λ d. option_needed (codes "epoch")) only_epoch
    (λ no. absurd (cc)) (λ no. elim no [ inl h ↦ cc | inr h ↦ cc ])

pub connections_there : (c : Command) (m : ArgMatches) → app_of c ≡ serve_app → IsParsedFrom c m
    → is_some (first_value (found_of m) (codes "connections")) ≡ true
unfolding serve_app_of
connections_there c m e p = there serve_app (serve_alone true) c e m (codes "connections") 2 p (omega arith) (λ d. option_needed (codes "connections")) only_connections
    (λ no. absurd (cc)) (λ no. elim no [ inl h ↦ cc | inr h ↦ cc ])

-- the files have an entry
pub files_there : (needed : Bool) (c : Command) (m : ArgMatches) → app_of c ≡ serve_app_of needed → IsParsedFrom c m
    → is_some (matched_of (found_of m) (codes "files")) ≡ true
unfolding serve_app_of
files_there needed c m e p =
    let app = serve_app_of needed in
    let alone = serve_alone needed in
    let d = some_argument app alone c e in
    let within : 3 < length (args_of c) = omega (arith, as_many app alone c e) in
    let rule : rule_of (slice_index_or (args_of c) 3 d) ≡ words (codes "files") = rule_at app alone c e 3 d within in
    let present = required_present c m p (plain app alone c e) (local app alone c e) (strict app alone c e) 3 d within
    (ap (λ (r : Rule). r.required) rule) in
    subst (λ (n : List ℕ). is_some (matched_of (found_of m) n) ≡ true) (ap (λ (r : Rule). r.id) rule)
    (present_has_entry (found_of m) (slice_index_or (args_of c) 3 d).id.now present)

-- the path of the script has a value
abbrev world_rules : List Rule
world_rules = word (codes "SCRIPT") ∷ choice (codes "pieces") ∷ []

world_alone_at : (k : ℕ) (d : Rule) → k < 2 → is_alone (slice_index_or world_rules k d) ≡ true
world_alone_at zero d low = refl
world_alone_at (suc zero) d low = refl
world_alone_at (suc (suc k)) d low = absurd (omega arith)

world_alone : IsAlone world_app
unfolding world_app
world_alone = record { some = omega arith; rules = world_alone_at; plain = refl; strict = refl }

only_script : (j : ℕ) (d : Rule) → j < 2 → bytes_eq (slice_index_or world_rules j d).id (codes "SCRIPT") ≡ true → j ≡ 0
only_script zero d low same = refl
only_script (suc zero) d low same = absurd (true≢false (sym same))
only_script (suc (suc k)) d low same = absurd (omega arith)

pub script_there : (c : Command) (m : ArgMatches) → app_of c ≡ world_app → IsParsedFrom c m
    → is_some (first_value (found_of m) (codes "SCRIPT")) ≡ true
unfolding world_app
script_there c m e p = there world_app world_alone c e m (codes "SCRIPT") 0 p (omega arith)
    (λ d. record { id = refl; required = refl; action = refl; range = refl; alone = refl }) only_script
    (λ no. absurd (cc)) (λ no. elim no [ inl h ↦ cc | inr h ↦ cc ])

pub world_simple : is_simple world_app ≡ true
unfolding world_app clap_on_literals
world_simple = refl

pub simple : (needed : Bool) → is_simple (serve_app_of needed) ≡ true
unfolding serve_app_of clap_on_literals
simple true = refl
simple false = refl

-- no argument has a rule on another
pub world_free : is_simple_and_free world_app ≡ true
unfolding world_app clap_on_literals
world_free = refl

pub serve_free : (needed : Bool) → is_simple_and_free (serve_app_of needed) ≡ true
unfolding serve_app_of clap_on_literals
serve_free true = refl
serve_free false = refl

-- the value of an option that was found is its value by the matches
pub option_value : (f : Found) (matches : List Row) (name : List ℕ) (o : Option (Bor (List ℕ))) (v : Bor (List ℕ)) → rows_of f ≡ matches
    → option_map (λ s. s.now) o ≡ first_value f name → o ≡ Some v → first_of name matches ≡ Some v.now
option_value f matches name o v rows found is =
    ap (first_of name) (sym rows) ∙ sym (first_value-rows f name) ∙ sym found ∙ ap (option_map (λ (s : Bor (List ℕ)). s.now)) is

-- and so is that of one which may be left out
pub choice_value : (f : Found) (matches : List Row) (name : List ℕ) (o : Option (Bor (List ℕ))) → rows_of f ≡ matches
    → option_map (λ s. s.now) o ≡ first_value f name → first_of name matches ≡ option_map (λ s. s.now) o
choice_value f matches name o rows found = ap (first_of name) (sym rows) ∙ sym (first_value-rows f name) ∙ sym found

-- the text that a flag is read from
pub flag_text : (f : Found) (matches : List Row) (name : List ℕ) → rows_of f ≡ matches → one_text f name ≡ one_of name matches
flag_text f matches name rows = one_text-rows f name ∙ ap (one_of name) rows

-- and so are several
pub all_values : (f : Found) (matches : List Row) (name : List ℕ) (o : Option (Bor (List (Bor (List ℕ))))) (v : Bor (List (Bor (List ℕ)))) → rows_of f ≡ matches
    → option_map (λ s. map (λ w. w.now) s.now) o ≡ option_map raw_values (matched_of f name) → o ≡ Some v
    → all_of name matches ≡ Some (map (λ w. w.now) v.now)
all_values f matches name o v rows found is =
    ap (all_of name) (sym rows) ∙ sym (raw_values-rows f name) ∙ sym found
    ∙ ap (option_map (λ (s : Bor (List (Bor (List ℕ)))). map (λ (w : Bor (List ℕ)). w.now) s.now)) is

pub some_mapped : {X Y : Type 0} (f : X → Y) (o : Option X) → is_some o ≡ true → is_some (option_map f o) ≡ true
some_mapped f None e = e
some_mapped f (Some x) e = refl

-- an error that is passed on
pub passed_on : {A E : Type 0} (result : Result A E) (error : E) (P : E → Type 0) → IsErrAnd result (λ e. e ≡ error) → P error → IfErr result P
passed_on (Ok a) error P bad good = absurd bad
passed_on (Err e) error P is good = subst P (sym is) good

-- and so is its kind
pub refused_as : {A : Type 0} (result : Result A Error) (error : Error) (kinds : Kinds) → IsErrAnd result (λ e. e ≡ error) → HasKind kinds error → FailsBy kinds result
refused_as (Ok a) error kinds bad has = absurd bad
refused_as (Err e) error kinds is has = subst (HasKind kinds) (sym is) has

-- the value of a word, or nothing where it has none
pub word_value : (f : Found) (name : List ℕ) (o : Option (Bor (List ℕ))) (d w : Bor (List ℕ)) → option_map (λ s. s.now) o ≡ first_value f name
    → d.now ≡ [] → w ≡ unwrap_or o d → w.now ≡ word_of name (rows_of f)
word_value f name None d w found empty is =
    ap (λ (b : Bor (List ℕ)). b.now) is ∙ empty ∙ ap (λ (t : Option (List ℕ)). unwrap_or t []) (found ∙ first_value-rows f name)
word_value f name (Some v) d w found empty is =
    ap (λ (b : Bor (List ℕ)). b.now) is ∙ ap (λ (t : Option (List ℕ)). unwrap_or t []) (found ∙ first_value-rows f name)

-- an option's value is that by the rows
pub option_row : (f : Found) (name : List ℕ) (o : Option (Bor (List ℕ))) → option_map (λ s. s.now) o ≡ first_value f name
    → first_of name (rows_of f) ≡ option_map (λ s. s.now) o
option_row f name o found = choice_value f (rows_of f) name o refl found

-- and a flag tells what is there
pub flag_tells : (f : Found) (name : List ℕ) (here : Bool) → (one_text f name ≡ None → here ≡ false) → (one_text f name ≡ Some (codes "true") → here ≡ true)
    → (one_text f name ≡ Some (codes "false") → here ≡ false) → Tells (one_of name (rows_of f)) here
flag_tells f name here missing shown hidden =
    let text = flag_text f (rows_of f) name refl in
    record { none = λ e. missing (text ∙ e); yes = λ e. shown (text ∙ e); no = λ e. hidden (text ∙ e) }

-- a flag of which the value is known
pub flag_is : (text : Option (List ℕ)) (here value : Bool) → here ≡ value → Tells text here → Tells text value
flag_is text here value is tells = subst (Tells text) is tells

-- four values, one by one
four : (values : List (Bor (List ℕ))) (d : Bor (List ℕ)) → length values ≡ 4
    → map (λ v. v.now) values ≡ (slice_index_or values 0 d).now ∷ (slice_index_or values 1 d).now ∷ (slice_index_or values 2 d).now ∷ (slice_index_or values 3 d).now ∷ []
four [] d many = absurd (omega (arith, many))
four (a ∷ []) d many = absurd (omega (arith, many))
four (a ∷ b ∷ []) d many = absurd (omega (arith, many))
four (a ∷ b ∷ c ∷ []) d many = absurd (omega (arith, many))
four (a ∷ b ∷ c ∷ e ∷ []) d many = refl
four (a ∷ b ∷ c ∷ e ∷ g ∷ more) d many = absurd (omega (arith, many))

pub four_values : (f : Found) (name : List ℕ) (o : Option (Bor (List (Bor (List ℕ))))) (v : Bor (List (Bor (List ℕ)))) (d : Bor (List ℕ))
    → option_map (λ s. map (λ w. w.now) s.now) o ≡ option_map raw_values (matched_of f name) → o ≡ Some v → length v.now ≡ 4
    → all_of name (rows_of f)
    ≡ Some ((slice_index_or v.now 0 d).now ∷ (slice_index_or v.now 1 d).now ∷ (slice_index_or v.now 2 d).now ∷ (slice_index_or v.now 3 d).now ∷ [])
four_values f name o v d found is many = all_values f (rows_of f) name o v refl found is ∙ ap Some (four v.now d many)

-- no values aren't four
pub no_values : (f : Found) (name : List ℕ) (o : Option (Bor (List (Bor (List ℕ)))))
    → option_map (λ s. map (λ w. w.now) s.now) o ≡ option_map raw_values (matched_of f name) → o ≡ None → ¬ IsOfFour (all_of name (rows_of f))
no_values f name o found is four =
    let none : all_of name (rows_of f) ≡ None = sym (raw_values-rows f name) ∙ sym found
    ∙ ap (option_map (λ (s : Bor (List (Bor (List ℕ)))). map (λ (w : Bor (List ℕ)). w.now) s.now)) is in
    absurd (true≢false (ap is_some (sym four.are ∙ none)))

-- and neither is another number of them
pub other_values : (f : Found) (name : List ℕ) (o : Option (Bor (List (Bor (List ℕ))))) (v : Bor (List (Bor (List ℕ))))
    → option_map (λ s. map (λ w. w.now) s.now) o ≡ option_map raw_values (matched_of f name) → o ≡ Some v → length v.now ≢ 4
    → ¬ IsOfFour (all_of name (rows_of f))
other_values f name o v found is other four =
    let values = all_values f (rows_of f) name o v refl found is in
    other (sym (length-map v.now (λ (w : Bor (List ℕ)). w.now)) ∙ ap (λ (values : Option (List (List ℕ))). length (unwrap_or values [])) (sym values ∙ four.are))

-- the values of `--header`, if some stand
pub given_headers : (f : Found) (o : Option (Bor (List (Bor (List ℕ))))) (v : Bor (List (Bor (List ℕ))))
    → option_map (λ s. map (λ w. w.now) s.now) o ≡ option_map raw_values (matched_of f (codes "header")) → o ≡ Some v → AreHeaders (rows_of f) v.now
given_headers f o v found is = ap (λ (values : Option (List (List ℕ))). unwrap_or values []) (all_values f (rows_of f) (codes "header") o v refl found is)

-- and if none stand
pub no_headers : (f : Found) (o : Option (Bor (List (Bor (List ℕ)))))
    → option_map (λ s. map (λ w. w.now) s.now) o ≡ option_map raw_values (matched_of f (codes "header")) → o ≡ None → AreHeaders (rows_of f) []
no_headers f o found is =
    let none : all_of (codes "header") (rows_of f) ≡ None = sym (raw_values-rows f (codes "header")) ∙ sym found
    ∙ ap (option_map (λ (s : Bor (List (Bor (List ℕ)))). map (λ (w : Bor (List ℕ)). w.now) s.now)) is in
    ap (λ (values : Option (List (List ℕ))). unwrap_or values []) none

-- the rows of a subcommand that was found, by its name and its rows
pub entered_rows : {Z : Type 0} (b : Option (Box SubCommand Z)) (name : List ℕ) (rows : List Row)
    → Some name ≡ option_map (λ s. (out-SubCommand (box_value s)).name.now) b → Some rows ≡ option_map (λ p. p.1) (subcommand_rows b) → subcommand_rows b ≡ Some (name, rows)
entered_rows None name rows named rowed = absurd (true≢false (ap is_some named))
entered_rows (Some b) name rows named rowed =
    ap (λ (n : Option (List ℕ)). Some (unwrap_or n [], unwrap_or (option_map (λ (p : List ℕ × List Row). p.1) (subcommand_rows (Some b))) [])) (sym named)
    ∙ ap (λ (r : Option (List Row)). Some (name, unwrap_or r [])) (sym rowed)

-- what is true of it is true of the line
pub found_as : {Z : Type 0} (b : Option (Box SubCommand Z)) (name : List ℕ) (matches own : List Row) (line : ReadLine)
    → Some name ≡ option_map (λ s. (out-SubCommand (box_value s)).name.now) b → Some matches ≡ option_map (λ p. p.1) (subcommand_rows b)
    → HasLine matches line → Asks name matches line.asked → HasFound (subcommand_rows b) own line
found_as b name matches own line named rowed values asks =
    subst (λ (s : Option (List ℕ × List Row)). HasFound s own line) (sym (entered_rows b name matches named rowed)) (values, asks)

window≢describe : codes "window" ≢ codes "describe"
window≢describe e = true≢false (ap (λ (name : List ℕ). nat_eq (length name) 6) e)

-- a window's words, as what its name says
pub window_asks : (name : List ℕ) (matches : List Row) (words asked : AskedWords) → name ≡ codes "window" → asked ≡ words → AsksWindow matches words
    → Asks name matches asked
window_asks name matches words asked is same right = record {
  window = λ e. subst (AsksWindow matches) (sym same) right;
  description = λ e. absurd (window≢describe (sym is ∙ e));
  info = λ no other. absurd (no is);
}

-- and a description's
pub description_asks : (name : List ℕ) (matches : List Row) (words asked : AskedWords) → name ≡ codes "describe" → asked ≡ words
    → AsksDescription matches words → Asks name matches asked
description_asks name matches words asked is same right = record {
  window = λ e. absurd (window≢describe (sym e ∙ is));
  description = λ e. subst (AsksDescription matches) (sym same) right;
  info = λ no other. absurd (other is);
}

-- and those of any other
pub other_asks : (name : List ℕ) (matches : List Row) (asked : AskedWords) → name ≢ codes "window" → name ≢ codes "describe" → asked ≡ Info
    → Asks name matches asked
other_asks name matches asked window describe is = record {
  window = λ e. absurd (window e);
  description = λ e. absurd (describe e);
  info = λ no other. is;
}
