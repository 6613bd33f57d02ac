use Rattle.std.proofs.Common.{◌∙◌, inr, sym}
use Rattle.programs.specs.Bounds.{IsNoRectangle}
use Rattle.programs.proofs.bounds.bounds.Given as given
use Rattle.programs.proofs.bounds.bounds.Goals as goal

-- the four numbers, which are no rectangle
turned : (g : given.Over) (c : goal.Else-is_rectangle g) → IsNoRectangle c.args.words.now
turned g c = (
  record {
    west = c.in_ok-coordinate.field-0;
    south = c.in_ok-coordinate-2.field-0;
    east = c.in_ok-coordinate-3.field-0;
    north = c.in_ok-coordinate-4.field-0;
  },
  record {
    west = c.in_ok-coordinate.ensures.ok;
    south = c.in_ok-coordinate-2.ensures.ok;
    east = c.in_ok-coordinate-3.ensures.ok;
    north = c.in_ok-coordinate-4.ensures.ok;
  },
  sym c.is_rectangle.ensures ∙ c.if-is_rectangle.false,
)

pub returns-else-is_rectangle-clause-err : goal.returns-else-is_rectangle-clause-err
returns-else-is_rectangle-clause-err g c = inr (inr (inr (inr (turned g c))))

pub returns-else-is_rectangle-clause-turned : goal.returns-else-is_rectangle-clause-turned
returns-else-is_rectangle-clause-turned g c _ = turned g c
