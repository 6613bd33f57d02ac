use Rattle.std.proofs.Common.{◌+◌, ◌*◌, [], Some, arith, ap, refl, sym, ◌∙◌}
use Rattle.geokeys.proofs.KeyDirectoryHeader.{number_there, bad_version, bad_revision, bad_size}
use Rattle.geokeys.proofs.entry.head_of.Goals as goal
use Rattle.geokeys.proofs.entry.head_of.Goals.{then-version-ne1-via-then-version-ne1, then-version-ne1-via-else-version-ne1+then-revision-ne1, then-version-ne1-via-else-version-ne1+else-revision-ne1+then-directory-from}

pub returns-then-version-ne1 : goal.returns-then-version-ne1
returns-then-version-ne1 c =
    let d = c.args.directory.now in (
      refl,
      elim c.then-version-ne1.branch [
        | then-version-ne1-via-then-version-ne1 w ↦ bad_version c.args.order d [] [] (omega arith) (λ e. w.if-version-ne1.true (c.short_at-version.ensures ∙ e))
        | then-version-ne1-via-else-version-ne1+then-revision-ne1 w ↦ bad_revision c.args.order d [] [] (omega arith) (λ e. w.if-revision-ne1.true (c.short_at-revision.ensures ∙ e))
        | then-version-ne1-via-else-version-ne1+else-revision-ne1+then-directory-from w ↦
            bad_size c.args.order d [] [] (omega arith) c.requires.even
            (λ e. w.if-directory-from.true (e ∙ ap (λ n. 8 + 8 * n) (sym (w.from.ensures ∙ c.short_at-keys.ensures))))
      ],
    )

pub returns : goal.returns
returns c =
    let d = c.args.directory.now in
    let order = c.args.order in
    record {
      version = number_there order d 0 (omega arith) ∙ ap (λ n. Some n) (sym c.short_at-version.ensures ∙ c.if-version-ne1.false);
      revision = number_there order d 1 (omega arith) ∙ ap (λ n. Some n) (sym c.short_at-revision.ensures ∙ c.if-revision-ne1.false);
      minor = number_there order d 2 (omega arith) ∙ ap (λ n. Some n) (sym c.short_at-minor.ensures);
      keys = number_there order d 3 (omega arith) ∙ ap (λ n. Some n) (sym c.short_at-keys.ensures);
      size = c.if-directory-from.false ∙ ap (λ n. 8 + 8 * n) c.from.ensures;
    }
