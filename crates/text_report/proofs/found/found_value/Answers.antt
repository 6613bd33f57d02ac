use Rattle.std.proofs.Common.{◌+◌, refl, rules, sym, ◌∙◌}
use Rattle.text_report.proofs.DirectoryLemmas.{numbered}
use Rattle.text_report.proofs.UnreadLemmas.{found_here, none_first, none_last, past_absent, past_mask, past_read}
use Rattle.text_report.proofs.found.found_value.Goals as goal
use Rattle.text_report.proofs.found.found_value.Goals.{else-is_known_level-via-else-is_known_level, else-is_known_level-via-then-is_known_level+in-None-1, else-is_known_level-via-then-is_known_level+in-Some+else-not-is_read}

pub returns-in-loop-directory-clause-there : goal.returns-in-loop-directory-clause-there
returns-in-loop-directory-clause-there g c = λ f of. (
  c.loop-directory.directory,
  c.loop-directory.directory,
  numbered f c.in_ok-directories.directories c.loop-directory.directory (c.in_ok-directories.ensures.known f of) c.loop-directory-test.true,
  c.is_known_level.ensures.known c.if-is_known_level.true f of,
  c.in-Some.ensures.known f of,
)

pub returns-in-loop-directory-clause-whole : goal.returns-in-loop-directory-clause-whole
returns-in-loop-directory-clause-whole g c = λ f of all chain.
    found_here f c.args.tag c.in_ok-directories.directories c.loop-directory.directory c.in-Some.value (c.in_ok-directories.ensures.known f of) c.loop-directory-test.true
    (c.is_known_level.ensures.known c.if-is_known_level.true f of) (c.in-Some.ensures.known f of) (sym c.is_read.ensures ∙ c.if-not-is_read.true) (c.loop-directory.invariant f of all)

pub loop-directory-init : goal.loop-directory-init
loop-directory-init g c = λ f of all. none_first f c.args.tag c.in_ok-directories.directories

pub loop-directory-preserved : goal.loop-directory-preserved
loop-directory-preserved g c = λ f of all.
    let tag = c.args.tag in
    let n = c.in_ok-directories.directories in
    let k = c.loop-directory.directory in
    let below = c.loop-directory-test.true in
    let before = c.loop-directory.invariant f of all in
    elim c.else-is_known_level.branch [
      | else-is_known_level-via-else-is_known_level w ↦ past_mask f tag n k (k + 1) refl below (sym (c.is_known_level.ensures.whole f of all) ∙ w.if-is_known_level.false) before
      | else-is_known_level-via-then-is_known_level+in-None-1 w ↦ past_absent f tag n k (k + 1) refl below (sym (w.known_value.ensures.whole f of all) ∙ assumption rules) before
      | else-is_known_level-via-then-is_known_level+in-Some+else-not-is_read w ↦ past_read f tag n k (k + 1) w.in-Some.value refl below (c.is_known_level.ensures.known w.if-is_known_level.true f of) (w.in-Some.ensures.known f of) (sym w.is_read.ensures ∙ w.if-not-is_read.false) before
    ]

pub returns-clause-whole : goal.returns-clause-whole
returns-clause-whole g c = λ f of all chain.
    none_last f c.args.tag c.in_ok-directories.directories c.loop-directory.directory (c.in_ok-directories.ensures.known f of) c.loop-directory-test.false
    (c.loop-directory.invariant f of all)
