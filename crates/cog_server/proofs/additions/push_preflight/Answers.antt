use Rattle.std.proofs.Common.{◌++◌, ◌∙◌, List, ℕ, codes, ap}
use Rattle.std.specs.List.{flat_map}
use Rattle.std.specs.Prelude.{option_copied}
use Rattle.http_fields.specs.Text.{FieldLine, closing, line}
use Rattle.cog_server.specs.Additions.{origin_fields}
use Rattle.cog_server.proofs.AdditionsLemmas.{three_more}
use Rattle.cog_server.proofs.additions.push_preflight.Goals as goal

pub returns : goal.returns
returns c =
    let rest = origin_fields (option_copied c.args.additions.origin) ++ closing c.args.close in
    let a : FieldLine = (codes "Access-Control-Allow-Methods", codes "GET, HEAD") in
    let b : FieldLine = (codes "Access-Control-Allow-Headers", codes "Range, If-Range, If-Match, If-None-Match") in
    let d : FieldLine = (codes "Access-Control-Max-Age", codes "86400") in
    c.in_ok-push_end.ensures ∙ ap (λ (xs : List ℕ). xs ++ (flat_map line rest ++ codes "\r\n")) (c.in_ok-push_line-3.ensures
    ∙ ap (λ (xs : List ℕ). xs ++ line d) (c.in_ok-push_line-2.ensures ∙ ap (λ (xs : List ℕ). xs ++ line b) (c.in_ok-push_line.ensures
    ∙ ap (λ (xs : List ℕ). xs ++ line a) c.in_ok-extend_from_slice.ensures.items)))
    ∙ three_more c.args.out.now.items (codes "HTTP/1.1 204 No Content") a b d rest
