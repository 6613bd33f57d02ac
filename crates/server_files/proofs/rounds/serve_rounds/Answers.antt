use Rattle.std.proofs.Common.{◌∙◌, inl, inr, refl}
use Rattle.cog_server.specs.Service.{added_of}
use Rattle.server_files.specs.Publishing.{names, never}
use Rattle.server_files.specs.Rounds.{begun}
use Rattle.server_files.proofs.PublishingLemmas.{again_on, others_on}
use Rattle.server_files.proofs.RoundLemmas.{broke_on, erred, kept_on, nobody_keeps, round_on, wait_on}
use Rattle.server_files.proofs.rounds.serve_rounds.Goals as goal

pub returns-in_err-round-clause-others : goal.returns-in_err-round-clause-others
returns-in_err-round-clause-others g c =
    others_on (names c.args.files.now) (names c.loop.files) c.args.server.now c.loop.server c.round.new.server c.loop.invariant.same c.loop.invariant.others c.round.ensures.others

pub returns-in_err-round-clause-names : goal.returns-in_err-round-clause-names
returns-in_err-round-clause-names g c = c.round.ensures.names ∙ c.loop.invariant.same

pub returns-in_err-round-clause-settings : goal.returns-in_err-round-clause-settings
returns-in_err-round-clause-settings g c = c.round.ensures.settings ∙ c.loop.invariant.settings

pub loop-init : goal.loop-init
loop-init g c = record {
  same = refl;
  settings = refl;
  limits = record { limits = refl; room = refl; few = λ within. within };
  went = begun;
  anew = never;
  others = λ other none. refl;
}

pub returns-then-is_over-clause-anew : goal.returns-then-is_over-clause-anew
returns-then-is_over-clause-anew g c =
    again_on g.R.File.Read.remaining (names c.args.files.now) (names c.loop.files) c.args.server.now c.loop.server c.round.new.server c.loop.invariant.same
    c.loop.invariant.anew c.round.ensures.anew

pub returns-in-Err-clause-anew : goal.returns-in-Err-clause-anew
returns-in-Err-clause-anew g c =
    again_on g.R.File.Read.remaining (names c.args.files.now) (names c.loop.files) c.args.server.now c.loop.server c.round.new.server c.loop.invariant.same
    c.loop.invariant.anew c.round.ensures.anew

pub returns-in_err-round-clause-anew : goal.returns-in_err-round-clause-anew
returns-in_err-round-clause-anew g c =
    again_on g.R.File.Read.remaining (names c.args.files.now) (names c.loop.files) c.args.server.now c.loop.server c.round.new.server c.loop.invariant.same
    c.loop.invariant.anew c.round.ensures.anew

pub loop-preserved : goal.loop-preserved
loop-preserved g c = record {
  same = c.round.ensures.names ∙ c.loop.invariant.same;
  settings = c.round.ensures.settings ∙ c.loop.invariant.settings;
  limits = kept_on c.args.serving.now c.round.new.serving c.wait.new.self
      (kept_on c.args.serving.now c.loop.serving c.round.new.serving c.loop.invariant.limits c.round.ensures.limits)
      (nobody_keeps c.round.new.serving c.wait.new.self c.wait.ensures.nobody);
  went = wait_on g.R.File.Read.remaining c.args.files.now c.round.new.files (added_of c.args.additions) c.args.server.now c.round.new.server c.args.serving.now
      c.round.new.serving c.wait.new.self
      (round_on g.R.File.Read.remaining c.args.files.now c.loop.files c.round.new.files (added_of c.args.additions) c.args.server.now c.loop.server
      c.round.new.server c.args.serving.now c.loop.serving c.round.new.serving c.loop.invariant.same c.loop.invariant.went c.round.ensures.went
      c.round.ensures.anew c.round.ensures.idle c.round.ensures.limits c.in_ok-round.ensures.looked c.round.ensures.unlooked)
      c.wait.ensures.same c.wait.ensures.nobody;
  anew = again_on g.R.File.Read.remaining (names c.args.files.now) (names c.loop.files) c.args.server.now c.loop.server c.round.new.server c.loop.invariant.same
      c.loop.invariant.anew c.round.ensures.anew;
  others = others_on (names c.args.files.now) (names c.loop.files) c.args.server.now c.loop.server c.round.new.server c.loop.invariant.same c.loop.invariant.others c.round.ensures.others;
}

pub returns-then-is_over-clause-went : goal.returns-then-is_over-clause-went
returns-then-is_over-clause-went g c =
    inl (round_on g.R.File.Read.remaining c.args.files.now c.loop.files c.round.new.files (added_of c.args.additions) c.args.server.now c.loop.server
    c.round.new.server c.args.serving.now c.loop.serving c.round.new.serving c.loop.invariant.same c.loop.invariant.went c.round.ensures.went
    c.round.ensures.anew c.round.ensures.idle c.round.ensures.limits c.in_ok-round.ensures.looked c.round.ensures.unlooked)

pub returns-in_err-round-clause-went : goal.returns-in_err-round-clause-went
returns-in_err-round-clause-went g c =
    inr (
      erred c.from_residual.result _ c.from_residual.ensures.1,
      broke_on g.R.File.Read.remaining c.args.files.now c.loop.files c.round.new.files (added_of c.args.additions) c.args.server.now c.loop.server
          c.round.new.server c.args.serving.now c.loop.serving c.round.new.serving c.loop.invariant.same c.loop.invariant.went c.round.ensures.went
          c.round.ensures.anew c.round.ensures.idle c.round.ensures.limits c.in_err-round.ensures.err,
    )

pub returns-in-Err-clause-went : goal.returns-in-Err-clause-went
returns-in-Err-clause-went g c =
    inl (wait_on g.R.File.Read.remaining c.args.files.now c.round.new.files (added_of c.args.additions) c.args.server.now c.round.new.server c.args.serving.now
    c.round.new.serving c.wait.new.self
    (round_on g.R.File.Read.remaining c.args.files.now c.loop.files c.round.new.files (added_of c.args.additions) c.args.server.now c.loop.server
    c.round.new.server c.args.serving.now c.loop.serving c.round.new.serving c.loop.invariant.same c.loop.invariant.went c.round.ensures.went
    c.round.ensures.anew c.round.ensures.idle c.round.ensures.limits c.in_ok-round.ensures.looked c.round.ensures.unlooked)
    c.wait.ensures.same c.wait.ensures.nobody)
