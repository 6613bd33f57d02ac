use Rattle.std.proofs.Common.{◌≡◌, true, refl, ap, ◌∙◌, eq-eqb, arith}
use Rattle.std.specs.Prelude.{◌==◌}
use Rattle.tiff_dir.specs.declared.level.Place.{Place}
use Rattle.cog_reader.specs.declared.kept_arrays.KeptArrays.{KeptArrays}
use Rattle.cog_reader.specs.KeptArrays.{next_array}
use Rattle.cog_reader.proofs.KeptLemmas.{both_kept, offsets_kept, others, no_offsets, some_at, from_some}
use Rattle.std.specs.Prelude.{length, slice_get}
use Rattle.tiff_dir.specs.declared.level.Level.{Level}
use Rattle.tiff_dir.specs.Walk.{levels_of}
use Rattle.cog_reader.proofs.kept_arrays.KeptArrays.with.Goals as goal

pub returns-then-kept-number-clause-same : goal.returns-then-kept-number-clause-same
returns-then-kept-number-clause-same c f order layout kept given =
    both_kept f c.args.number _ c.args.self c.in-Offsets.kept c.args.array.items order layout c.in-Offsets.is (eq-eqb _ _ c.if-kept-number.true) refl kept given

pub returns-else-kept-number-clause-same : goal.returns-else-kept-number-clause-same
returns-else-kept-number-clause-same c f order layout kept given =
    let next = ap (λ (k : KeptArrays). next_array k c.args.number c.args.level.now) c.in-Offsets.is ∙ (others c.in-Offsets.kept c.in-Offsets.offsets c.args.number c.args.level.now c.if-kept-number.false).1 in
    offsets_kept f c.args.number c.args.level.now c.args.self c.args.array.items c.args.array.items layout next refl given

pub returns-in_default : goal.returns-in_default
returns-in_default c =
    let other = no_offsets c.args.self c.args.number c.args.level.now (λ (p : Place). length c.args.array.items ≡ p.len) c.in_default.not-Offsets c.requires.wanted in record {
      more = let same : (c.args.number == c.args.number) ≡ true = eq-eqb c.args.number c.args.number refl in rw same (omega (arith, other.0));
      sound = λ w ended there. (
        ended,
        from_some (slice_get (levels_of w) c.args.number) c.args.level.now (λ (l : Level). length c.args.array.items ≡ l.offsets.len) there
            (some_at (next_array c.args.self c.args.number c.args.level.now) c.args.level.now.offsets (λ (p : Place). length c.args.array.items ≡ p.len) other.1 c.requires.wanted),
      );
      same = λ f order layout kept given. offsets_kept f c.args.number c.args.level.now c.args.self c.args.array.items c.args.array.items layout other.1 refl given;
    }
