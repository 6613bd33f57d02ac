use Rattle.std.proofs.Common.{◌∙◌, sym, rules}
use Rattle.std.proofs.lemmas.List.{length-set}
use Rattle.server_files.specs.Publishing.{IsOfFiles}
use Rattle.server_files.proofs.LookingLemmas.{each_looked, each_looked_then, rest_set}
use Rattle.server_files.proofs.PublishingLemmas.{each_then, handed_on, names_set, of_files, others_then, served_then, settings_set}
use Rattle.server_files.proofs.publishing.publish_all.Goals as goal

pub returns-in_err-publish_one-clause-names : goal.returns-in_err-publish_one-clause-names
returns-in_err-publish_one-clause-names g c =
    names_set c.loop-k.files c.loop-k.k c.publish_one.new.file _ c.publish_one.ensures.name ∙ c.loop-k.invariant.same

pub returns-in_err-publish_one-clause-others : goal.returns-in_err-publish_one-clause-others
returns-in_err-publish_one-clause-others g c =
    others_then c.loop-k.files c.loop-k.k _ _ c.args.server.now c.loop-k.server c.publish_one.new.server (search rules) c.loop-k.invariant.same c.loop-k.invariant.others c.publish_one.ensures.others

pub returns-in_err-publish_one-clause-err : goal.returns-in_err-publish_one-clause-err
returns-in_err-publish_one-clause-err g c =
    handed_on c.from_residual.result (IsOfFiles c.args.log.now.is_kept c.args.files.now) _
    (of_files c.args.log.now.is_kept c.loop-k.files c.args.files.now c.loop-k.k _ _ (search rules) c.loop-k.invariant.settings c.in_err-publish_one.ensures.err)
    c.from_residual.ensures.1

pub returns-in_err-publish_one-clause-settings : goal.returns-in_err-publish_one-clause-settings
returns-in_err-publish_one-clause-settings g c =
    settings_set c.loop-k.files c.loop-k.k c.publish_one.new.file _ c.publish_one.ensures.name c.publish_one.ensures.path c.publish_one.ensures.verify
    ∙ c.loop-k.invariant.settings

pub loop-k-preserved : goal.loop-k-preserved
loop-k-preserved g c = record {
  end = c.loop-k.invariant.end ∙ sym (length-set c.loop-k.files c.loop-k.k c.publish_one.new.file);
  same = names_set c.loop-k.files c.loop-k.k c.publish_one.new.file _ c.publish_one.ensures.name ∙ c.loop-k.invariant.same;
  settings = settings_set c.loop-k.files c.loop-k.k c.publish_one.new.file _ c.publish_one.ensures.name c.publish_one.ensures.path c.publish_one.ensures.verify
      ∙ c.loop-k.invariant.settings;
  served = served_then c.loop-k.files c.loop-k.k _ _ c.loop-k.server c.publish_one.new.server (search rules) c.loop-k.invariant.same c.publish_one.ensures.others
      c.in_ok-publish_one.ensures.served c.loop-k.invariant.served;
  each = each_then g.R.File.Read.remaining c.loop-k.files c.loop-k.k _ _ c.args.server.now c.loop-k.server c.publish_one.new.server (search rules) c.loop-k.invariant.same c.loop-k.invariant.each
      c.in_ok-publish_one.ensures.next;
  others = others_then c.loop-k.files c.loop-k.k _ _ c.args.server.now c.loop-k.server c.publish_one.new.server (search rules) c.loop-k.invariant.same c.loop-k.invariant.others c.publish_one.ensures.others;
  rest = rest_set c.args.files.now c.loop-k.files c.loop-k.k c.publish_one.new.file c.loop-k.invariant.rest;
  looked = each_looked_then c.args.files.now c.loop-k.files c.loop-k.k _ c.publish_one.new.file (search rules) c.loop-k.invariant.rest c.loop-k.invariant.looked
      c.publish_one.ensures.looked;
}

pub returns-clause-looked : goal.returns-clause-looked
returns-clause-looked g c = each_looked c.args.files.now c.loop-k.files c.loop-k.k c.loop-k.invariant.rest (search rules) c.loop-k.invariant.looked
