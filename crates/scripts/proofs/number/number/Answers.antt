use Rattle.std.proofs.Common.{◌≡◌, ◌∙◌, true, false, rules, tests, sym}
use Rattle.std.proofs.lemmas.Iterator.{YieldsList-from_slice}
use Rattle.std.proofs.lemmas.Iterator.Search.{all_from_yields_List}
use Rattle.std.proofs.lemmas.Str.{IsUtf8-from_ascii}
use Rattle.std.specs.Char.{is_ascii_digit}
use Rattle.std.specs.Str.{all_ascii_digits}
use Rattle.scripts.proofs.NumberLemmas.{digits_are_ascii, list_all-digits, not_read, number_none, number_parsed, text_read}
use Rattle.scripts.proofs.number.number.Goals as goal

pub returns-then-not-all : goal.returns-then-not-all
returns-then-not-all c =
    let all = all_from_yields_List is_ascii_digit _ _ _ c.all.ensures.ran (YieldsList-from_slice c.args.word.now (cc)) (λ x b q k. search (rules, tests)) in
    let none : all_ascii_digits c.args.word.now ≡ false = sym (list_all-digits c.args.word.now) ∙ (sym all ∙ c.if-not-all.true) in
    sym (number_none c.args.word.now none)

pub returns-in_err-ok : goal.returns-in_err-ok
returns-in_err-ok c =
    let word = c.args.word.now in
    let all = all_from_yields_List is_ascii_digit _ _ _ c.all.ensures.ran (YieldsList-from_slice c.args.word.now (cc)) (λ x b q k. search (rules, tests)) in
    let digits : all_ascii_digits word ≡ true = sym (list_all-digits word) ∙ (sym all ∙ c.if-not-all.false) in
    absurd (not_read word c.from_utf8.result c.in_err-ok.ensures.value c.from_utf8.ensures.cases (IsUtf8-from_ascii word (digits_are_ascii word digits)))

pub returns : goal.returns
returns c =
    let word = c.args.word.now in
    let all = all_from_yields_List is_ascii_digit _ _ _ c.all.ensures.ran (YieldsList-from_slice c.args.word.now (cc)) (λ x b q k. search (rules, tests)) in
    let digits : all_ascii_digits word ≡ true = sym (list_all-digits word) ∙ (sym all ∙ c.if-not-all.false) in
    let read = text_read word c.from_utf8.result c.in_ok-ok.field-0 c.in_ok-ok.ensures.value c.from_utf8.ensures.cases in
    c.ok-2.ensures.value ∙ number_parsed word c.parse.result (rw read at c.parse.ensures.value.0) digits
