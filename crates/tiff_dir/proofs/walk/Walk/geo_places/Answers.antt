use Rattle.std.proofs.Common.{Result, Ok, Err, IfOk, IfErr, MatchResult, subst}
use Rattle.tiff_dir.specs.declared.geo.GeoPlaces.{GeoPlaces}
use Rattle.tiff_dir.specs.declared.fault.FileFault.{FileFault}
use Rattle.tiff_dir.specs.GeoEntries.{ArePlacesBy, IsFaultBy}
use Rattle.tiff_dir.specs.WalkState.{WalkState}
use Rattle.tiff_dir.specs.Walk.{WalkAgrees, HasEnded, AreGeoPlaces}
use Rattle.tiff_dir.specs.Geo.{IsGeoFault}
use Rattle.tiff_dir.proofs.GeoLemmas.{places_told, fault_told}
use Rattle.tiff_dir.proofs.Told.{ended_geo}
use Rattle.tiff_dir.proofs.walk.Walk.geo_places.Goals as goal

places : (w : WalkState) (r : Result GeoPlaces FileFault) → HasEnded w → MatchResult r (ArePlacesBy w.geo) (IsFaultBy w.geo) → IfOk r (λ p. (f : _) → WalkAgrees w f → AreGeoPlaces f p)
places w (Ok p) ended by = λ f told. places_told f w.geo p (ended_geo w f ended told) by
places w (Err fault) ended by = tt

fault_of : (w : WalkState) (r : Result GeoPlaces FileFault) → HasEnded w → MatchResult r (ArePlacesBy w.geo) (IsFaultBy w.geo) → IfErr r (λ fault. (f : _) → WalkAgrees w f → IsGeoFault f fault)
fault_of w (Ok p) ended by = tt
fault_of w (Err fault) ended by = λ f told. fault_told f w.geo fault (ended_geo w f ended told) by

pub returns-clause-places : goal.returns-clause-places
returns-clause-places c =
    let P : WalkState → Type 0 = λ w. MatchResult c.places.result (ArePlacesBy w.geo) (IsFaultBy w.geo) in
    places c.args.self.now c.places.result c.requires (subst P c.self.view_is c.places.ensures.places)

pub returns-clause-fault : goal.returns-clause-fault
returns-clause-fault c =
    let P : WalkState → Type 0 = λ w. MatchResult c.places.result (ArePlacesBy w.geo) (IsFaultBy w.geo) in
    fault_of c.args.self.now c.places.result c.requires (subst P c.self.view_is c.places.ensures.places)
