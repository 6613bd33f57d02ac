use Rattle.std.proofs.Common.{ℕ, List, rules, string_bytes, subst}
use Rattle.cog_client.specs.Client.{IsUrlRefusal}
use Rattle.programs.proofs.clients.client_of_url.Goals as goal

pub returns-in_ok-from_str-in-Err : goal.returns-in_ok-from_str-in-Err
returns-in_ok-from_str-in-Err g c =
    let P : List ℕ → Type 0 = λ authority. IsUrlRefusal authority (string_bytes c.args.url.now.target) c.args.blocks c.in-Err.error in
    let Q : List ℕ → Type 0 = λ target. IsUrlRefusal c.as_bytes-authority.result.now target c.args.blocks c.in-Err.error in
    record {
      starts = tt;
      err = (search rules, subst P c.as_bytes-authority.ensures.value (subst Q c.as_bytes-target.ensures.value c.in-Err.ensures.refused));
    }
