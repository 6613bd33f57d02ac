use Rattle.std.proofs.Common.{◌≡◌, ◌∙◌, ap, ap₂, codes}
use Rattle.clap.specs.Words.{app_of, new_app, with_rule}
use Rattle.clap.specs.Simple.{app_of_fields}
use Rattle.command_lines.specs.ServeLine.{versioned}
use Rattle.command_lines.specs.WorldLine.{world_app}
use Rattle.command_lines.proofs.ArgumentLemmas.{with_argument}
use Rattle.command_lines.proofs.world.world_command.Goals as goal

pub returns : goal.returns
unfolding world_app
returns c =
    let start : app_of c.after_help.result ≡ versioned (new_app (codes "cogworld")) =
    ap app_of_fields c.after_help.ensures ∙ ap app_of_fields c.version.ensures
    ∙ ap versioned (ap app_of_fields c.about.ensures ∙ c.new.ensures.app) in
    let script = c.in_ok-command.ensures.shape c.script.ensures.local ∙ ap₂ with_rule start c.script.ensures.rule in
    with_argument _ _ _ _ _ c.arg-2.ensures c.choice.ensures.local script c.choice.ensures.rule
