-- What a window query asks for, by the levels alone.
use Rattle.std.proofs.Common.{◌≡◌, ℕ, ◌*◌, Bool, true, false, List, length, Option, Some, None, refl, sym, subst, ap, ◌∙◌}
use Rattle.std.specs.Prelude.{◌==◌, nat_lt, slice_get, IsTrue, IsSomeAnd, IfSome, IfOk, IfErr, Result, Ok, Err}
use Rattle.std.specs.Option.{option_map_or}
use Rattle.tiff_dir.specs.declared.level.Level.{Level}
use Rattle.tiff_dir.specs.declared.query.Query.{Query}
use Rattle.tiff_dir.specs.declared.query.Query.TheVariants.{Window}
use Rattle.tiff_dir.specs.declared.query.Pick.TheVariants as pick
use Rattle.tiff_dir.specs.declared.fault.FileFault.{FileFault}
use Rattle.tiff_dir.specs.declared.fault.FileFault.TheVariants.{Outside, TooLarge}
use Rattle.tiff_dir.specs.File.{◌>>=◌}
use Rattle.tiff_dir.specs.Query as asked
use Rattle.tiff_dir.specs.declared.limits.TheConstants.{MAX_WINDOW_SAMPLES}
use Rattle.tile_plan.specs.declared.asked.Rectangle.{Rectangle}
use Rattle.tile_plan.specs.Levels.{rectangle_of, is_inside, last_with_columns, outwards}
use Rattle.tile_plan.specs.Drawn.{given_in, lies_inside, picked, drawn, is_large, IsDrawn, IsRefusal}

-- ---- whether it lies in its level

there_inside : (o : Option Level) (x y w h : ℕ) (l : Level) → o ≡ Some l → IsTrue (is_inside l x y w h) → option_map_or (λ l. is_inside l x y w h) o false ≡ true
there_inside o x y w h l is inside = rw is inside

not_inside : (o : Option Level) (x y w h : ℕ) → IfSome o (λ l. is_inside l x y w h ≡ false) → option_map_or (λ l. is_inside l x y w h) o false ≡ false
not_inside None x y w h bad = refl
not_inside (Some l) x y w h bad = bad

given_first : (ls : List Level) (columns : ℕ) → (columns == 0) ≡ false → given_in ls (pick.Columns columns) ≡ slice_get ls 0
given_first ls columns some = rw some refl

pub level_lies : (ls : List Level) (n x y w h : ℕ) (l : Level) → slice_get ls n ≡ Some l → IsTrue (is_inside l x y w h) → lies_inside ls (Window x y w h (pick.Level n)) ≡ true
level_lies ls n x y w h l is inside = there_inside (slice_get ls n) x y w h l is inside

pub columns_lie : (ls : List Level) (columns x y w h : ℕ) (l : Level) → (columns == 0) ≡ false → slice_get ls 0 ≡ Some l → IsTrue (is_inside l x y w h) → lies_inside ls (Window x y w h (pick.Columns columns)) ≡ true
columns_lie ls columns x y w h l some is inside = there_inside (given_in ls (pick.Columns columns)) x y w h l (given_first ls columns some ∙ is) inside

pub level_refusal : (ls : List Level) (n x y w h : ℕ) (fault : FileFault) → (fault ≡ Outside) × IfSome (slice_get ls n) (λ l. is_inside l x y w h ≡ false) → IsRefusal ls (Window x y w h (pick.Level n)) fault
level_refusal ls n x y w h fault (same, bad) = subst (IsRefusal ls (Window x y w h (pick.Level n))) (sym same) (not_inside (slice_get ls n) x y w h bad)

pub columns_refusal : (ls : List Level) (columns x y w h : ℕ) (fault : FileFault) → (columns == 0) ≡ false → (fault ≡ Outside) × IfSome (slice_get ls 0) (λ l. is_inside l x y w h ≡ false) → IsRefusal ls (Window x y w h (pick.Columns columns)) fault
columns_refusal ls columns x y w h fault some (same, bad) =
    subst (IsRefusal ls (Window x y w h (pick.Columns columns))) (sym same)
    (ap (λ o. option_map_or (λ l. is_inside l x y w h) o false) (given_first ls columns some) ∙ not_inside (slice_get ls 0) x y w h bad)

pub no_columns_refusal : (ls : List Level) (columns x y w h : ℕ) → (columns == 0) ≡ true → IsRefusal ls (Window x y w h (pick.Columns columns)) Outside
no_columns_refusal ls columns x y w h none = rw none refl

-- ---- its rectangle

pub columns_drawn : (ls : List Level) (columns n x y w h : ℕ) (first l : Level) (r : Rectangle) → slice_get ls 0 ≡ Some first → n ≡ last_with_columns ls columns w first.width (length ls) → slice_get ls n ≡ Some l
    → rectangle_of r ≡ outwards n first l x y w h → drawn ls (Window x y w h (pick.Columns columns)) ≡ Some (rectangle_of r)
columns_drawn ls columns n x y w h first l r is smallest there same =
    let In : Level → ℕ → Option asked.Rectangle = λ first k. slice_get ls k >>= λ here. Some (outwards k first here x y w h) in
    ap (λ (o : Option Level). o >>= λ first. In first (picked ls columns w first)) is
    ∙ ap (In first) (sym smallest)
    ∙ ap (λ (o : Option Level). o >>= λ here. Some (outwards n first here x y w h)) there
    ∙ ap Some (sym same)

large_by : (ls : List Level) (r : Rectangle) (l : Level) (large : Bool) → slice_get ls r.level ≡ Some l → nat_lt MAX_WINDOW_SAMPLES (r.w * r.h * l.samples) ≡ large → is_large ls (rectangle_of r) ≡ large
large_by ls r l large is said = rw is said

pub drawn_by : (ls : List Level) (q : Query) (r : Rectangle) (l : Level) (result : Result Rectangle FileFault) → slice_get ls r.level ≡ Some l → lies_inside ls q ≡ true → drawn ls q ≡ Some (rectangle_of r)
    → IfOk result (λ s. (s ≡ r) × (nat_lt MAX_WINDOW_SAMPLES (r.w * r.h * l.samples) ≡ false)) → IfOk result (IsDrawn ls q)
drawn_by ls q r l (Ok s) is inside there (same, few) = subst (IsDrawn ls q) (sym same) (record { inside = inside; rectangle = there; few = large_by ls r l false is few })
drawn_by ls q r l (Err e) is inside there good = tt

pub refusal_by : (ls : List Level) (q : Query) (r : Rectangle) (l : Level) (result : Result Rectangle FileFault) → slice_get ls r.level ≡ Some l → lies_inside ls q ≡ true → drawn ls q ≡ Some (rectangle_of r)
    → IfErr result (λ fault. (fault ≡ TooLarge) × (nat_lt MAX_WINDOW_SAMPLES (r.w * r.h * l.samples) ≡ true)) → IfErr result (IsRefusal ls q)
refusal_by ls q r l (Ok s) is inside there bad = tt
refusal_by ls q r l (Err e) is inside there (same, many) =
    let large : IsSomeAnd (drawn ls q) (λ r. is_large ls r ≡ true) = subst (λ o. IsSomeAnd o (λ r. is_large ls r ≡ true)) (sym there) (large_by ls r l true is many) in
    subst (IsRefusal ls q) (sym same) (inside, large)
