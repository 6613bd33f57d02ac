use Rattle.std.proofs.Common.{subst}
use Rattle.tiff_dir.specs.declared.fault.FileFault.{FileFault}
use Rattle.std.proofs.Common.{Option}
use Rattle.cog_reader.specs.Give.{AcceptsRange}
use Rattle.cog_reader.proofs.GiveLemmas.{at_state, gives_on, gives_fault}
use Rattle.cog_reader.proofs.state.PendingQuery.give.Goals as goal

pub returns-in-Some-clause-gives : goal.returns-in-Some-clause-gives
returns-in-Some-clause-gives c file_length state =
    let old = at_state c.args.walk.now c.args.kept.now c.args.tile_cache.now c.args.self.now.state in
    let new = at_state c.accept.new.walk c.accept.new.kept c.accept.new.tile_cache c.accept.new.state in
    gives_fault file_length c.args.bytes.now c.args.self.now.query old new c.in-Some.fault c.requires.kept c.requires.wanted
    (subst (λ (o : Option FileFault). AcceptsRange file_length c.args.bytes.now old new o) c.in-Some.is (c.in_ok-fault.ensures.accepts file_length state))

pub returns-in-None-clause-gives : goal.returns-in-None-clause-gives
returns-in-None-clause-gives c file_length state =
    let old = at_state c.args.walk.now c.args.kept.now c.args.tile_cache.now c.args.self.now.state in
    let new = at_state c.accept.new.walk c.accept.new.kept c.accept.new.tile_cache c.accept.new.state in
    gives_on file_length c.args.bytes.now c.args.self.now.query old new (subst (λ (o : Option FileFault). AcceptsRange file_length c.args.bytes.now old new o) c.in-None.is (c.in_ok-fault.ensures.accepts file_length state))
