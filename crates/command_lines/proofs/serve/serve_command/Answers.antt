use Rattle.std.proofs.Common.{◌≡◌, ◌∙◌, ap, codes}
use Rattle.clap.specs.Words.{app_of, new_app}
use Rattle.clap.specs.Simple.{app_of_fields}
use Rattle.command_lines.specs.ServeLine.{serve_app_of, versioned}
use Rattle.command_lines.proofs.ArgumentLemmas.{with_arguments}
use Rattle.command_lines.proofs.serve.serve_command.Goals as goal

pub returns : goal.returns
unfolding serve_app_of
returns c =
    let start : app_of c.after_help.result ≡ versioned (new_app (codes "cogserve")) =
    ap app_of_fields c.after_help.ensures ∙ ap app_of_fields c.version.ensures
    ∙ ap versioned (ap app_of_fields c.about.ensures ∙ c.new.ensures.app) in
    with_arguments _ (serve_app_of c.args.form.required).top.rules _ _ _ c.args-2.ensures (c.in_ok-add_arguments.ensures c.new-arguments.ensures.items) start
