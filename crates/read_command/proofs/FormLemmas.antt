-- A description in words names the tag of the client's report.
use Rattle.std.proofs.Common.{◌≡◌, ℕ, zero, suc, true, List, [], ◌∷◌, Option, Some, Ok, sym, subst, ◌∙◌, arith}
use Rattle.std.specs.Prelude.{IfSome, IsSomeAnd}
use Rattle.std.specs.List.{list_all}
use Rattle.std.specs.Cow.{cow_str_bytes}
use Rattle.std.specs.Str.{IsAscii}
use Rattle.std.specs.Str.Lossy.{utf8_lossy}
use Rattle.std.proofs.lemmas.Bool.{and_parts}
use Rattle.std.proofs.lemmas.Bool.Decides.{nat_tests}
use Rattle.std.proofs.lemmas.Str.{IsUtf8-from_ascii, utf8_lossy-IsUtf8}
use Rattle.cog_reader.specs.declared.outcome.Outcome.{Outcome}
use Rattle.cog_reader.specs.declared.outcome.Outcome.TheVariants as outcome
use Rattle.cog_client.specs.declared.report.Report.{Report}
use Rattle.cog_client.specs.Client.{ClientState, report_of}
use Rattle.text_description.specs.declared.description.Description.{Description}
use Rattle.text_description.specs.declared.description.Form.{Form}
use Rattle.text_description.specs.declared.description.Form.TheVariants.{Json, Words}
use Rattle.text_description.specs.Description.{Describes, SaysOf, length_of}
use Rattle.text_description.specs.Text.{IsJson, IsLine, NamesTag, is_visible}
use Rattle.cog_reader.specs.declared.outcome.Info.{Info}
use Rattle.read_command.specs.declared.reading.Asked.{Asked}
use Rattle.read_command.specs.declared.reading.Asked.TheVariants as asked
use Rattle.read_command.specs.declared.text.Text.{Text}
use Rattle.read_command.specs.Text.{IsInForm, IsWritten}

-- what is visible in ASCII is ASCII
visible_ascii : (bs : List ℕ) → list_all is_visible bs ≡ true → IsAscii bs
visible_ascii [] visible i = omega arith
visible_ascii (b ∷ bs) visible zero = let parts = and_parts (is_visible b) (list_all is_visible bs) visible in
    let first : is_visible b ≡ true = parts.0 in grind (arith, nat_tests)
visible_ascii (b ∷ bs) visible (suc i) = visible_ascii bs (and_parts (is_visible b) (list_all is_visible bs) visible).1 i

-- a visible tag is printed as it is
pub named_as : (tag printed text : List ℕ) → printed ≡ utf8_lossy tag → NamesTag printed text → NamesTag tag text
named_as tag printed text is names = record {
  named = names.named;
  line = names.line;
  same = λ visible. let e : printed ≡ tag = is ∙ utf8_lossy-IsUtf8 tag (IsUtf8-from_ascii tag (visible_ascii tag visible)) in
      names.same (subst (λ (t : List ℕ). list_all is_visible t ≡ true) (sym e) visible) ∙ e;
}

said_tag : (tag : List ℕ) (length : Option ℕ) (o : Outcome) (d : Description) → SaysOf tag length o d → cow_str_bytes d.tag ≡ utf8_lossy tag
said_tag tag length (outcome.Info info) d says = says.tag_is
said_tag tag length (outcome.Window window) d says = absurd says
said_tag tag length (outcome.Fault fault) d says = absurd says

-- the description has the form that was asked for, and the tag of the report
pub in_form : (c : ClientState) (r : Report) (d : Description) (form : Form) (text : List ℕ) → report_of c ≡ Some r → Describes c d
    → (form ≡ Json → IsLine IsJson text) → (form ≡ Words → NamesTag (cow_str_bytes d.tag) text) → IsInForm form r.tag text
in_form c r d form text is described json words = (json, λ chosen. named_as r.tag (cow_str_bytes d.tag) text tag_is (words chosen))
  where
    tag_is : cow_str_bytes d.tag ≡ utf8_lossy r.tag
    tag_is = said_tag r.tag (length_of c) r.outcome d
        (subst (λ o. IsSomeAnd o (λ report. SaysOf report.tag (length_of c) report.outcome d)) is described)

-- so it is what is written of the report
pub written : (c : ClientState) (r : Report) (made : Option Description) (d : Description) (a : Asked) (form : Form) (info : Info) (bytes : List ℕ) (text : Text)
    → report_of c ≡ Some r → a ≡ asked.Description form → r.outcome ≡ outcome.Info info → made ≡ Some d → IfSome made (Describes c)
    → (form ≡ Json → IsLine IsJson bytes) → (form ≡ Words → NamesTag (cow_str_bytes d.tag) bytes)
    → text.head.items ≡ bytes → text.samples.now ≡ [] → IsWritten a r.tag r.outcome (Ok text)
written c r made d a form info bytes text stands asked_is info_is made_is described json words head samples =
    subst (λ (x : Asked). IsWritten x r.tag r.outcome (Ok text)) (sym asked_is)
    (subst (λ (o : Outcome). IsWritten (asked.Description form) r.tag o (Ok text)) (sym info_is) (
      subst (λ (t : List ℕ). IsInForm form r.tag t) (sym head)
          (in_form c r d form bytes stands (subst (λ (o : Option Description). IfSome o (Describes c)) made_is described) json words),
      samples,
    ))
