use Rattle.std.proofs.Common.{◌≡◌, ◌∙◌, ◌+◌, List, ap, drop, length, refl, rules, subst, sym}
use Rattle.std.proofs.lemmas.List.{length-set}
use Rattle.std.proofs.lemmas.Bool.{false≢true}
use Rattle.cog_server.specs.Server.{ServerState}
use Rattle.disk_files.specs.declared.watched.Watched.{Watched}
use Rattle.server_files.specs.Publishing.{ArePublishedAnew, KeepsOthersThan, names, settings}
use Rattle.server_files.proofs.LookingLemmas.{Completes, all_done, looked_then, passed_on, rest_passed, rest_set}
use Rattle.server_files.proofs.PublishingLemmas.{anew_then, names_set, others_then, passed_then, settings_set}
use Rattle.server_files.proofs.publishing.look_again.Goals as goal
use Rattle.server_files.proofs.publishing.look_again.Goals.{then-not-is_name_of_one, else-not-is_name_of_one}

pub loop-k-preserved : goal.loop-k-preserved
loop-k-preserved g c =
    let files = c.loop-k.files in
    let k = c.loop-k.k in
    let before = c.loop-k.invariant in
    let ns = names c.args.files.now in
    let Goes : ServerState → Type 0 = λ u. (v : ServerState) → ArePublishedAnew g.R.File.Read.remaining (drop (k + 1) ns) u v → ArePublishedAnew g.R.File.Read.remaining ns c.args.server.now v in
    let Rest : List Watched → Type 0 = λ xs. drop (k + 1) xs ≡ drop (k + 1) c.args.files.now in
    elim c.if-not-is_name_of_one.branch [
      | then-not-is_name_of_one w ↦ record {
        end = before.end ∙ sym (ap length w.files-is ∙ length-set files k w.look_at.new.file);
        same = ap names w.files-is ∙ names_set files k w.look_at.new.file _ w.look_at.ensures.name ∙ before.same;
        settings = ap settings w.files-is ∙ settings_set files k w.look_at.new.file _ w.look_at.ensures.name w.look_at.ensures.path w.look_at.ensures.verify
            ∙ before.settings;
        others = subst (KeepsOthersThan (names c.args.files.now) c.args.server.now) (sym w.server-is)
            (others_then files k _ _ c.args.server.now c.loop-k.server w.look_at.new.server (search rules) before.same before.others w.look_at.ensures.others);
        anew = subst Goes (sym w.server-is)
            (anew_then g.R.File.Read.remaining files k _ ns c.args.server.now c.loop-k.server w.look_at.new.server (search rules) before.same w.look_at.ensures.anew
            w.if-not-is_name_of_one.ensures.1 before.anew);
        rest = subst Rest (sym w.files-is) (rest_set c.args.files.now files k w.look_at.new.file before.rest);
        looked = subst (Completes (k + 1) c.args.files.now) (sym w.files-is)
            (looked_then c.args.files.now files k _ w.look_at.new.file (search rules) before.rest (λ later. false≢true (w.if-not-is_name_of_one.ensures.1 later))
            w.look_at.ensures.looked before.looked);
      }
      | else-not-is_name_of_one w ↦ record {
        end = before.end ∙ sym (ap length w.files-is);
        same = ap names w.files-is ∙ before.same;
        settings = ap settings w.files-is ∙ before.settings;
        others = subst (KeepsOthersThan (names c.args.files.now) c.args.server.now) (sym w.server-is) before.others;
        anew = subst Goes (sym w.server-is)
            (passed_then g.R.File.Read.remaining files k ns c.args.server.now c.loop-k.server (search rules) before.same before.anew);
        rest = subst Rest (sym w.files-is) (rest_passed c.args.files.now files k before.rest);
        looked = subst (Completes (k + 1) c.args.files.now) (sym w.files-is)
            (passed_on c.args.files.now files k _ (search rules) before.rest (w.if-not-is_name_of_one.ensures.0 refl) before.looked);
      }
    ]

pub returns-clause-looked : goal.returns-clause-looked
returns-clause-looked g c = all_done c.args.files.now c.loop-k.files c.loop-k.k c.loop-k.invariant.rest (search rules) c.loop-k.invariant.looked
