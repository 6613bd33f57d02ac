use Rattle.std.proofs.Common.{◌≡◌, ℕ, length, Option, sym, subst, ap}
use Rattle.std.specs.Prelude.{IsSomeAnd}
use Rattle.tiff_dir.specs.declared.fault.FileFault.{FileFault}
use Rattle.cog_reader.specs.declared.state.State.{State}
use Rattle.cog_reader.specs.declared.state.State.TheVariants.{Arrays, GeoFields}
use Rattle.cog_reader.specs.GeoFields.{FieldsState}
use Rattle.cog_reader.specs.Reader.{wanted_by, IsState}
use Rattle.cog_reader.specs.Give.{AcceptsRange, AcceptsDirectories, Advances}
use Rattle.cog_reader.proofs.StepLemmas.{if_ok}
use Rattle.cog_reader.proofs.GiveLemmas.{at_state, directories_told, accepts_field}
use Rattle.cog_reader.proofs.state.accept.Goals as goal

pub returns-in-Directories-clause-accepts : goal.returns-in-Directories-clause-accepts
returns-in-Directories-clause-accepts c =
    if_ok c.accept.result (AcceptsDirectories c.args.bytes.now c.args.walk.now c.accept.new.walk)
    (λ (o : Option FileFault). (file_length : ℕ) → IsState file_length c.args.walk.now c.args.kept.now c.args.state.now
    → AcceptsRange file_length c.args.bytes.now (at_state c.args.walk.now c.args.kept.now c.args.tile_cache.now c.args.state.now) (at_state c.accept.new.walk c.args.kept.now c.args.tile_cache.now c.args.state.now) o)
    c.accept.ensures.directories
    (λ o accepts file_length state. subst (λ (t : State). AcceptsRange file_length c.args.bytes.now (at_state c.args.walk.now c.args.kept.now c.args.tile_cache.now t) (at_state c.accept.new.walk c.args.kept.now c.args.tile_cache.now t) o) (sym c.in-Directories.is)
    (directories_told file_length c.args.bytes.now c.args.walk.now c.accept.new.walk c.args.kept.now c.args.tile_cache.now o c.requires.kept
    (subst (λ (t : State). IsSomeAnd (wanted_by c.args.walk.now c.args.kept.now t) (λ r. length c.args.bytes.now ≡ r.len)) c.in-Directories.is c.requires.wanted) accepts))

pub returns-in_ok-accept-in-Arrays-clause-accepts : goal.returns-in_ok-accept-in-Arrays-clause-accepts
returns-in_ok-accept-in-Arrays-clause-accepts c file_length state =
    subst (λ (t : State). Advances file_length c.args.bytes.now (at_state c.args.walk.now c.args.kept.now c.args.tile_cache.now t) (at_state c.args.walk.now c.accept-in-Arrays.new.kept c.args.tile_cache.now (Arrays c.in-Arrays.rect))) (sym c.in-Arrays.is)
    (c.in_ok-accept-in-Arrays.ensures.on file_length c.args.tile_cache.now)

pub returns-in_ok-give-in-GeoFields-clause-accepts : goal.returns-in_ok-give-in-GeoFields-clause-accepts
returns-in_ok-give-in-GeoFields-clause-accepts c file_length state =
    let w = c.args.walk.now in
    let k = c.args.kept.now in
    let x = c.in-GeoFields.fields in
    let given = c.in_ok-give-in-GeoFields.ensures.given in
    let wanted = subst (λ (t : State). IsSomeAnd (wanted_by w k t) (λ r. length c.args.bytes.now ≡ r.len)) c.in-GeoFields.is c.requires.wanted in
    subst (λ (t : State). Advances file_length c.args.bytes.now (at_state w k c.args.tile_cache.now t) (at_state w k c.args.tile_cache.now (GeoFields c.give.new.self))) (sym c.in-GeoFields.is)
    (accepts_field file_length c.args.bytes.now w k c.args.tile_cache.now x c.give.new.self (subst (IsState file_length w k) c.in-GeoFields.is state) c.requires.kept wanted (ap (λ (r : FieldsState). r.places) given) (ap (λ (r : FieldsState). r.given) given)
    (λ f read next. c.in_ok-give-in-GeoFields.ensures.fields f read next))
