-- The window that Info gives for an area of a level is that of the file.
use Rattle.std.proofs.Common.{◌≡◌, ◌≢◌, ℕ, true≢false, Bool, true, false, List, Option, Some, None, Result, Ok, Err, refl, sym, subst, ap, ◌∙◌}
use Rattle.std.specs.Prelude.{slice_get, IfSome, IsSome, is_ok}
use Rattle.std.specs.Option.{option_map, unwrap_or}
use Rattle.std.proofs.lemmas.Option.{none-some, same_Some, slice_get-map}
use Rattle.tiff_dir.specs.declared.query.Query.TheVariants.{Window, Info as AnInfo}
use Rattle.tiff_dir.specs.Fault.{sides}
use Rattle.tiff_dir.specs.File.{◌>>=◌}
use Rattle.tiff_dir.specs.Level.{level_directories, level_directory}
use Rattle.http_range.specs.Book.{Publication, Book, HasDistinctTags, In}
use Rattle.http_range.specs.Laws.{TagsTellOne}
use Rattle.cog_reader.specs.declared.outcome.Info.{Info}
use Rattle.cog_reader.specs.declared.outcome.Outcome.{Outcome}
use Rattle.cog_reader.specs.declared.outcome.Outcome.TheVariants as outcome
use Rattle.cog_reader.specs.Outcome.{IsInfoOf, IsTrueOf}
use Rattle.cog_client.specs.declared.report.Report.{Report}
use Rattle.cog_client.specs.Client.{ClientState, ClientAgrees, query_of}
use Rattle.cog_client.specs.Keeps.{Stands}
use Rattle.read_command.specs.declared.error.ReadError.{ReadError}
use Rattle.read_command.specs.declared.reading.Asked.{Asked}
use Rattle.read_command.specs.declared.reading.Asked.TheVariants as asked
use Rattle.read_command.specs.declared.text.Text.{Text}
use Rattle.tiff_dir.specs.declared.query.Query.{Query}
use Rattle.text_description.specs.World.{world_file}
use Rattle.text_description.specs.declared.covering.NoPixels.{NoPixels}
use Rattle.text_description.specs.declared.world.WorldFile.{WorldFile}
use Rattle.read_command.specs.declared.part.Area.{Area}
use Rattle.read_command.specs.declared.part.Area.TheVariants as area
use Rattle.read_command.specs.declared.part.Given.{Given}
use Rattle.read_command.specs.declared.part.NotGiven.{NotGiven}
use Rattle.read_command.specs.declared.part.Part.{Part}
use Rattle.read_command.specs.Exchanges.{AsksOf, IsWindowFor}
use Rattle.read_command.specs.Part.{area_window, given_in, part_given, whole_window, with_world}
use Rattle.read_command.specs.Text.{sides_of_level, HasWorld, IsFor, IsOfArea, IsOfPart, IsOfPartBy, IsOfWhole, IsTrueOfBook, IsWorldOf, IsWritten}

abbrev ok_or : {T E : Type 0} → T → Result T E → T
ok_or x (Ok y) = y
ok_or x (Err e) = x

same_Ok : {T E : Type 0} (x y : T) → ◌≡◌ {A = Result T E} (Ok x) (Ok y) → x ≡ y
same_Ok x y is = ap (ok_or x) is

told : {A B : Type 0} (g : A → Option B) (b : Option B) (a : Option A) → option_map Some b ≡ option_map g a → (a >>= g) ≡ b
told g None None is = refl
told g None (Some a) is = absurd (none-some (g a) is)
told g (Some b) None is = absurd (none-some (Some b) (sym is))
told g (Some b) (Some a) is = sym (same_Some (Some b) (g a) is)

sides_told : (f : List ℕ) (i : Info) (level : ℕ) → IsInfoOf f i → sides_of_level f level ≡ slice_get i.sides.items level
unfolding level_directory sides_of_level
sides_told f i level is =
    told (sides f) (slice_get i.sides.items level) (slice_get (level_directories f) level)
    (sym (slice_get-map Some i.sides.items level) ∙ ap (λ l. slice_get l level) is.sides_are ∙ slice_get-map (sides f) (level_directories f) level)

whole_is : (f : List ℕ) (i : Info) (level : ℕ) → IsInfoOf f i → IsOfWhole f level (whole_window (slice_get i.sides.items level) level)
whole_is f i level is = record {
  width = (unwrap_or (slice_get i.sides.items level) (1, 1)).0;
  height = (unwrap_or (slice_get i.sides.items level) (1, 1)).1;
  window = refl;
  sides = subst (λ o. IfSome o (λ t. t ≡ unwrap_or (slice_get i.sides.items level) (1, 1))) (sym (sides_told f i level is)) (there (slice_get i.sides.items level));
}
  where
    there : (o : Option (ℕ × ℕ)) → IfSome o (λ t. t ≡ unwrap_or o (1, 1))
    there None = tt
    there (Some s) = refl

area_is : (f : List ℕ) (i : Info) (a : Area) (level : ℕ) (q : Query) → IsInfoOf f i → area_window i a level ≡ Ok q → IsOfArea f a level q
area_is f i area.Whole level q is given = subst (IsOfWhole f level) (same_Ok _ _ given) (whole_is f i level is)
area_is f i (area.Bounds b) level q is given = record { said = i; holds = is; window = given }
area_is f i (area.Pixels x y w h) level q is given = sym (same_Ok _ _ given)

window_world : (has_world : Bool) (window : Query) (world : Option WorldFile) (g : Given) → with_world has_world window world ≡ Ok g → window ≡ g.window
window_world false window world g is = ap (λ (x : Given). x.window) (same_Ok _ _ is)
window_world true window None g is = cc
window_world true window (Some world) g is = ap (λ (x : Given). x.window) (same_Ok _ _ is)

world_is : (f : List ℕ) (i : Info) (has_world : Bool) (window : Query) (world : Option WorldFile) (g : Given) → IsInfoOf f i → world_file i window ≡ world
    → with_world has_world window world ≡ Ok g → IsWorldOf f has_world window g.world
world_is f i false window world g info from is = sym (ap (λ (x : Given). x.world) (same_Ok _ _ is))
world_is f i true window None g info from is = cc
world_is f i true window (Some world) g info from is =
    let same = ap (λ (x : Given). x.world) (same_Ok _ _ is) in
    record { said = i; holds = info; of_window = from ∙ same; there = subst (λ (o : Option WorldFile). IsSome o) same refl }

part_in : (f : List ℕ) (i : Info) (part : Part) (r : Result Query NoPixels) (g : Given) → IsInfoOf f i → area_window i part.area part.level ≡ r
    → given_in i part r ≡ Ok g → IsOfPart f part g.window g.world
part_in f i part (Err why) g info from is = cc
part_in f i part (Ok window) g info from is =
    let same = window_world part.has_world window (world_file i window) g is in (
      area_is f i part.area part.level g.window info (from ∙ ap Ok same),
      subst (λ (q : Query). IsWorldOf f part.has_world q g.world) same (world_is f i part.has_world window (world_file i window) g info refl is),
    )

part_is : (f : List ℕ) (i : Info) (part : Part) (g : Given) → IsInfoOf f i → part_given i part ≡ Ok g → IsOfPart f part g.window g.world
unfolding part_given
part_is f i part g info is = part_in f i part (area_window i part.area part.level) g info refl is

-- What the client's report of Info gives for a part is what the publication has whose tag the report tells.
pub given_told : TagsTellOne → (book : Book) → HasDistinctTags book → (c : ClientState) (r : Report) (i : Info) (part : Part) (g : Given) → Stands c (Some r) → ClientAgrees c book
    → r.outcome ≡ outcome.Info i → part_given i part ≡ Ok g → IsOfPartBy book r.tag part g.window g.world
given_told one book distinct c r i part g stands agrees is given p among tag =
    let true_of = stands.holds book agrees in
    let info = subst (λ o. IsTrueOf true_of.source.file r.query o) is true_of.holds in
    let equal = one book distinct true_of.source p true_of.published among (true_of.of_tag ∙ sym tag) in
    subst (λ (x : Publication). IsOfPart x.file part g.window g.world) equal (part_is true_of.source.file i part g info.1 given)

-- Info that gives no window for a part, for some reason, gives none
pub gives_none : (i : Info) (part : Part) (why : NotGiven) → part_given i part ≡ Err why → is_ok (part_given i part) ≡ true → ⊥
gives_none i part why refuses gives = true≢false (sym gives ∙ ap is_ok refuses)

-- a window of a level isn't Info
pub window_other : (a : Area) (level : ℕ) (q : Query) → IsWindowFor a level q → q ≢ AnInfo
window_other area.Whole level q (width, height, is) = λ same. cc
window_other (area.Bounds b) level (Window x y w h pick) of = λ same. cc
window_other (area.Bounds b) level AnInfo of = absurd of
window_other (area.Pixels x y w h) level q is = λ same. cc

-- a text that has a world file beside it is what it was
pub beside_text : (a : Asked) (tag : List ℕ) (o : Outcome) (text : Text) (world : Option WorldFile) → IsWritten a tag o (Ok text) → IsWritten a tag o (Ok (record text { world = world }))
beside_text a tag (outcome.Window v) text world says = says
beside_text (asked.Query query) tag (outcome.Info i) text world says = says
beside_text (asked.Part part) tag (outcome.Info i) text world says = says
beside_text (asked.Description form) tag (outcome.Info i) text world says = says
beside_text a tag (outcome.Fault fault) text world says = cc

-- What is written of the report that stands is true of one publication of the book.
pub true_of_book : (name : List ℕ) (book : Book) (a : Asked) (c : ClientState) (r : Report) (world : Option WorldFile) (written : Result Text ReadError) → ((p : Publication) → In p book → p.name ≡ name) → ClientAgrees c book
    → Stands c (Some r) → AsksOf book a c world → HasWorld world written → IsWritten a r.tag r.outcome written → IsTrueOfBook name book a written
true_of_book name book a c r world written named agrees stands asks beside says =
    let true_of = stands.holds book agrees in
    let of = subst (λ o. IfSome o (λ r. (p : Publication) → In p book → p.tag ≡ r.tag → IfSome (query_of c) (λ q. IsFor p.file a q world))) (sym stands.standing) asks in
    record {
      report = r;
      holds = record {
        asked = refl;
        source = true_of.source;
        published = true_of.published;
        of_name = named true_of.source true_of.published;
        of_tag = true_of.of_tag;
        holds = true_of.holds;
      };
      world = world;
      asked = subst (λ o. IfSome o (λ q. IsFor true_of.source.file a q world)) true_of.asked (of true_of.source true_of.published true_of.of_tag);
      beside = beside;
      says = says;
    }
