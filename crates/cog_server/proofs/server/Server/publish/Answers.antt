use Rattle.std.proofs.Common.{◌≡◌, ◌+◌, List, ℕ, refl, sym, ap, ◌∙◌, map}
use Rattle.std.specs.List.{position}
use Rattle.std.specs.Rc.{rc_slice_items}
use Rattle.std.specs.Str.{bytes_eq}
use Rattle.http_range.specs.Book.{Publication, Catalogue, publish}
use Rattle.cog_server.specs.declared.published.Published.{Published}
use Rattle.cog_server.specs.Catalogue.{publication}
use Rattle.cog_server.specs.Server.{ServerState}
use Rattle.cog_server.proofs.CatalogueLemmas.{stored}
use Rattle.cog_server.proofs.PublishLemmas.{others_stay}
use Rattle.cog_server.proofs.server.Server.publish.Goals as goal

pub returns-clause-ok : goal.returns-clause-ok
returns-clause-ok c =
    let files = c.self.inside.files.items in
    let p : Publication = record { name = c.in-Ok.name.items; tag = c.publication_tag-tag.result; file = rc_slice_items c.in-Ok-from_vec.file } in
    let place : c.place_of-place.result ≡ position (λ (file : Published). bytes_eq file.name.items c.in-Ok.name.items) files =
    c.place_of-place.ensures
    ∙ ap (λ (fs : List Published). position (λ (file : Published). bytes_eq file.name.items c.args.name.now) fs) c.deref-2.ensures.value
    ∙ ap (λ (n : List ℕ). position (λ (file : Published). bytes_eq file.name.items n) files) (sym c.in-Ok.ensures.items) in
    let catalogue : map publication c.put.new.files.items ≡ publish (record { name = c.args.name.now; tag = c.copy-kept.result; file = c.args.file.items }) (map publication files) =
    c.in_ok-put.ensures.ok ∙ stored p files c.place_of-place.result place
    ∙ ap (λ (q : Publication). publish q (map publication files)) (λ i. record { name = c.in-Ok.ensures.items i; tag = sym c.copy-kept.ensures.same i; file = c.in-Ok-from_vec.ensures i }) in
    let was : record { epoch = c.self.inside.epoch; count = c.self.inside.count; catalogue = map publication files } ≡ c.args.self.now = c.self.view_is in
    ap (λ (cs : Catalogue). record { epoch = c.self.inside.epoch; count = c.self.inside.count + 1; catalogue = cs }) catalogue
    ∙ ap (λ (s : ServerState). record {
      epoch = s.epoch;
      count = s.count + 1;
      catalogue = publish (record { name = c.args.name.now; tag = c.copy-kept.result; file = c.args.file.items }) s.catalogue;
    }) was

pub returns-clause-others : goal.returns-clause-others
returns-clause-others c =
    others_stay c.law_publications_replace.ensures.replaces _ c.args.name.now c.args.self.now.catalogue _ refl (ap (λ (s : ServerState). s.catalogue) (returns-clause-ok c))
