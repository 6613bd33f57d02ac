-- Publications one behind another.
use Rattle.std.proofs.Common.{◌≡◌, ◌≢◌, ◌<◌, ◌≤◌, ◌+◌, ◌-◌, ℕ, true, false, Bool, Err, List, Ok, Option, Result, [], ◌∷◌, ◌++◌, length, take, drop, refl, nat_eq, slice_index_or, slice_set, sym, ap, subst, ◌∙◌, inl, inr, arith}
use Rattle.std.specs.Prelude.{Contains, IfErr, IsErrAnd, IsSome}
use Rattle.std.proofs.Math.ListN.{drop_of_length-le}
use Rattle.std.proofs.Math.Seq.{map-set_same}
use Rattle.std.proofs.lemmas.Bool.{cases_Bool, false≢true}
use Rattle.std.proofs.lemmas.Bool.Decides.{nat_tests, not_from_Decides}
use Rattle.std.proofs.lemmas.List.{drop_more, drop-map, get_or_default, get_or-map, length-drop, length-map, take_all, take_more}
use Rattle.std.proofs.lemmas.Slice.Eq.{bytes_eq-Decides}
use Rattle.std.specs.Str.{bytes_eq}
use Rattle.cog_server.specs.Server.{ServerState}
use Rattle.disk_files.specs.declared.watched.Watched.{Watched}
use Rattle.disk_files.specs.Watching.{verify_of}
use Rattle.server_files.specs.declared.error.ServeFilesError.{ServeFilesError}
use Rattle.server_files.specs.declared.error.ServeFilesError.TheVariants.{CantAccept, CantListen, CantWait, CantWrite, NotPublished}
use Rattle.server_files.specs.Publishing.{ArePublished, ArePublishedAgain, ArePublishedAnew, IsOfFiles, IsOfOne, IsPublishedOf, IsServed, KeepsOthers, KeepsOthersThan, MayBePublished, again, names, settings}

-- a file that keeps its name leaves the names
pub names_set : (files : List Watched) (k : ℕ) (w d : Watched) → w.name ≡ (slice_index_or files k d).name
    → names (slice_set files k w) ≡ names files
names_set files k w d same = map-set_same (λ f. f.name.now) files k w d (ap (λ n. n.now) same)

-- the setting of a file
abbrev setting_of : Watched → List ℕ × List ℕ × Option ℕ
setting_of f = (f.name.now, f.path.now, verify_of f)

-- files of the same name, path and comparisons have the same setting
same_setting : (f g : Watched) → f.name ≡ g.name → f.path ≡ g.path → verify_of f ≡ verify_of g → setting_of f ≡ setting_of g
same_setting f g name path verify =
    let N : List ℕ → List ℕ × List ℕ × Option ℕ = λ n. (n, f.path.now, verify_of f) in
    let P : List ℕ → List ℕ × List ℕ × Option ℕ = λ p. (g.name.now, p, verify_of f) in
    let V : Option ℕ → List ℕ × List ℕ × Option ℕ = λ v. (g.name.now, g.path.now, v) in
    ap N (ap (λ n. n.now) name) ∙ ap P (ap (λ p. p.now) path) ∙ ap V verify

-- a file that keeps them leaves the settings
pub settings_set : (files : List Watched) (k : ℕ) (w d : Watched) → w.name ≡ (slice_index_or files k d).name
    → w.path ≡ (slice_index_or files k d).path → verify_of w ≡ verify_of (slice_index_or files k d) → settings (slice_set files k w) ≡ settings files
settings_set files k w d name path verify = map-set_same setting_of files k w d (same_setting w (slice_index_or files k d) name path verify)

-- what holds of an error holds where it is handed on
pub handed_on : {A E : Type 0} (r : Result A E) (P : E → Type 0) (error : E) → P error → IsErrAnd r (λ e. e ≡ error) → IfErr r P
handed_on (Ok x) P error holds is = absurd is
handed_on (Err e) P error holds is = subst P (sym is) holds

-- an error of a file is of each one with this name and path
one_as : (is_kept : Bool) (f g : Watched) (why : ServeFilesError) → f.name.now ≡ g.name.now → f.path.now ≡ g.path.now → IsOfOne is_kept f why
    → IsOfOne is_kept g why
one_as is_kept f g (NotPublished file) name path is = (is.0 ∙ name, is.1 ∙ path)
one_as is_kept f g (CantListen error) name path is = absurd is
one_as is_kept f g (CantAccept error) name path is = absurd is
one_as is_kept f g (CantWait error) name path is = absurd is
one_as is_kept f g (CantWrite error) name path is = is

-- an error of one of the files is of one of those that had the same settings
pub of_files : (is_kept : Bool) (files first : List Watched) (k : ℕ) (d : Watched) (why : ServeFilesError) → k < length files
    → settings files ≡ settings first → IsOfOne is_kept (slice_index_or files k d) why → IsOfFiles is_kept first why
of_files is_kept files first k d why bound same is =
    let f : Watched = slice_index_or files k d in
    let g : Watched = slice_index_or first k d in
    let e : List ℕ × List ℕ × Option ℕ = setting_of d in
    let as_many : length files ≡ length first = sym (length-map files setting_of) ∙ ap length same ∙ length-map first setting_of in
    let within : k < length first = subst (λ n. k < n) as_many bound in
    let setting : setting_of f ≡ setting_of g =
    sym (get_or-map setting_of files k d e bound) ∙ ap (λ l. slice_index_or l k e) same ∙ get_or-map setting_of first k d e within in
    (k, g, within, get_or_default first k g d within, one_as is_kept f g why (ap (λ s. s.0) setting) (ap (λ s. s.1) setting) is)

-- the name of a file is among the names
pub name_there : (files : List Watched) (k : ℕ) (d : Watched) (e : List ℕ) → k < length files
    → slice_index_or (names files) k e ≡ (slice_index_or files k d).name.now
name_there files k d e bound = get_or-map (λ f. f.name.now) files k d e bound

-- there are as many names
pub name_below : (files : List Watched) (k : ℕ) → k < length files → k < length (names files)
name_below files k bound = subst (λ n. k < n) (sym (length-map files (λ f. f.name.now))) bound

-- what is published under the name of a file leaves every other name
pub others_then : (files : List Watched) (k : ℕ) (d : Watched) (ns : List (List ℕ)) (s t u : ServerState) → k < length files
    → names files ≡ ns → KeepsOthersThan ns s t → KeepsOthers (slice_index_or files k d).name.now t u → KeepsOthersThan ns s u
others_then files k d ns s t u bound same first then =
    subst (λ ns. KeepsOthersThan ns s t → KeepsOthersThan ns s u) same
    (λ first other none. then other
    (λ is. none k other (name_below files k bound) (is ∙ sym (name_there files k d other bound)))
    ∙ first other none)
    first

-- what leaves every other name, and leaves it again
pub others_on : (ns ms : List (List ℕ)) (s t u : ServerState) → ms ≡ ns → KeepsOthersThan ns s t → KeepsOthersThan ms t u → KeepsOthersThan ns s u
others_on ns ms s t u same first then other none =
    subst (λ ns. KeepsOthersThan ns t u) same then other none ∙ first other none

-- what the server has stays, where one more name has something
kept : (name : List ℕ) (t u : ServerState) → KeepsOthers name t u → IsServed u name → (other : List ℕ) → IsServed t other → IsServed u other
kept name t u then served other there =
    elim (cases_Bool (bytes_eq other name)) [
      | inl same ↦ subst (IsServed u) (sym ((bytes_eq-Decides other name).0 same)) served
      | inr different ↦ subst (λ p. IsSome p) (sym (then other (not_from_Decides (bytes_eq other name) (bytes_eq-Decides other name) different))) there
    ]

before : (i k : ℕ) → i < k + 1 → nat_eq i k ≡ false → i < k
before i k below different = grind (arith, nat_tests)

at : (i k : ℕ) → nat_eq i k ≡ true → k ≡ i
at i k same = grind (arith, nat_tests)

-- each name up to this one has something
pub served_then : (files : List Watched) (k : ℕ) (d : Watched) (ns : List (List ℕ)) (t u : ServerState) → k < length files
    → names files ≡ ns → KeepsOthers (slice_index_or files k d).name.now t u → IsServed u (slice_index_or files k d).name.now
    → ((i : ℕ) (e : List ℕ) → i < k → IsServed t (slice_index_or ns i e))
    → (i : ℕ) (e : List ℕ) → i < k + 1 → IsServed u (slice_index_or ns i e)
served_then files k d ns t u bound same then served first i e below =
    elim (cases_Bool (nat_eq i k)) [
      | inl is ↦ subst (λ i. IsServed u (slice_index_or ns i e)) (at i k is)
          (subst (λ ns. IsServed u (slice_index_or ns k e)) same (subst (IsServed u) (sym (name_there files k d e bound)) served))
      | inr different ↦ kept (slice_index_or files k d).name.now t u then served (slice_index_or ns i e) (first i e (before i k below different))
    ]

-- one more is published behind those
one_more : {F : Type 0} (gives : F → Option (List ℕ)) (ns : List (List ℕ)) (n : List ℕ) (s t u : ServerState) → ArePublished gives ns s t
    → IsPublishedOf gives n t u → ArePublished gives (ns ++ n ∷ []) s u
one_more gives [] n s t u same is = (u, subst (λ x. IsPublishedOf gives n x u) same is, refl)
one_more gives (m ∷ ms) n s t u (mid, first, rest) is = (mid, first, one_more gives ms n mid t u rest is)

-- each name up to this one is published, and this one then
pub each_then : {F : Type 0} (gives : F → Option (List ℕ)) (files : List Watched) (k : ℕ) (d : Watched) (ns : List (List ℕ)) (s t u : ServerState)
    → k < length files → names files ≡ ns → ArePublished gives (take k ns) s t → IsPublishedOf gives (slice_index_or files k d).name.now t u
    → ArePublished gives (take (k + 1) ns) s u
each_then gives files k d ns s t u bound same first is =
    let P : List (List ℕ) → Type 0 = λ xs. ArePublished gives (take k xs) s t → ArePublished gives (take (k + 1) xs) s u in
    subst P same
    (λ before. subst (λ xs. ArePublished gives xs s u) (sym (take_more (names files) k d.name.now (name_below files k bound)))
    (one_more gives (take k (names files)) (slice_index_or (names files) k d.name.now) s t u before
    (subst (λ n. IsPublishedOf gives n t u) (sym (name_there files k d d.name.now bound)) is)))
    first

-- the names from this one on begin with it
rest_at : (files : List Watched) (k : ℕ) (d : Watched) (ns : List (List ℕ)) → k < length files → names files ≡ ns
    → drop k ns ≡ (slice_index_or files k d).name.now ∷ drop (k + 1) ns
rest_at files k d ns bound same =
    let P : List (List ℕ) → Type 0 = λ xs. drop k xs ≡ (slice_index_or files k d).name.now ∷ drop (k + 1) xs in
    subst P same
    (drop_more (names files) k d.name.now (name_below files k bound)
    ∙ ap (λ n. n ∷ drop (k + 1) (names files)) (name_there files k d d.name.now bound))

-- the names behind it are those of the files behind
pub names_behind : (files : List Watched) (k : ℕ) (ns : List (List ℕ)) → names files ≡ ns
    → names (take (length files - (k + 1)) (drop (k + 1) files)) ≡ drop (k + 1) ns
names_behind files k ns same =
    ap names (take_all (length files - (k + 1)) (drop (k + 1) files) (subst (λ n. n ≤ length files - (k + 1)) (sym (length-drop (k + 1) files)) (omega arith)))
    ∙ sym (drop-map (λ f. f.name.now) (k + 1) files) ∙ ap (drop (k + 1)) same

-- one more may be published anew, whose name none behind it has
pub anew_then : {F : Type 0} (gives : F → Option (List ℕ)) (files : List Watched) (k : ℕ) (d : Watched) (ns : List (List ℕ)) (s t u : ServerState) → k < length files → names files ≡ ns
    → MayBePublished gives (slice_index_or files k d).name.now t u
    → (Contains (names (take (length files - (k + 1)) (drop (k + 1) files))) (slice_index_or files k d).name.now → false ≡ true)
    → ((v : ServerState) → ArePublishedAnew gives (drop k ns) t v → ArePublishedAnew gives ns s v)
    → (v : ServerState) → ArePublishedAnew gives (drop (k + 1) ns) u v → ArePublishedAnew gives ns s v
anew_then gives files k d ns s t u bound same may last before v rest =
    let n : List ℕ = (slice_index_or files k d).name.now in
    let alone : Contains (drop (k + 1) ns) n → u ≡ t =
    λ behind. absurd (false≢true (last (subst (λ xs. Contains xs n) (sym (names_behind files k ns same)) behind))) in
    before v (subst (λ xs. ArePublishedAnew gives xs t v) (sym (rest_at files k d ns bound same)) (u, may, alone, rest))

-- nothing changed
pub stays_anew : {F : Type 0} (gives : F → Option (List ℕ)) (names : List (List ℕ)) (s : ServerState) → ArePublishedAnew gives names s s
stays_anew gives [] s = refl
stays_anew gives (name ∷ names) s = (s, inl refl, (λ _. refl), stays_anew gives names s)

-- one is passed over
pub passed_then : {F : Type 0} (gives : F → Option (List ℕ)) (files : List Watched) (k : ℕ) (ns : List (List ℕ)) (s t : ServerState) → k < length files → names files ≡ ns
    → ((v : ServerState) → ArePublishedAnew gives (drop k ns) t v → ArePublishedAnew gives ns s v)
    → (v : ServerState) → ArePublishedAnew gives (drop (k + 1) ns) t v → ArePublishedAnew gives ns s v
passed_then gives files k ns s t bound same before v rest =
    before v (subst (λ xs. ArePublishedAnew gives xs t v) (sym (drop_more ns k [] (subst (λ ns. k < length ns) same (name_below files k bound))))
    (t, inl refl, (λ _. refl), rest))

-- where all are passed nothing is left
pub none_left : {F : Type 0} (gives : F → Option (List ℕ)) (files : List Watched) (k : ℕ) (ns : List (List ℕ)) (s t : ServerState) → names files ≡ ns → length files ≤ k
    → ((v : ServerState) → ArePublishedAnew gives (drop k ns) t v → ArePublishedAnew gives ns s v) → ArePublishedAnew gives ns s t
none_left gives files k ns s t same all before =
    let long : length ns ≤ k = subst (λ n. n ≤ k) (sym (length-map files (λ f. f.name.now)) ∙ ap length same) all in
    before t (subst (λ xs. ArePublishedAnew gives xs t t) (sym (drop_of_length-le ns long)) refl)

-- the name is none of those up to this one
pub none_then : (files : List Watched) (k : ℕ) (d : Watched) (name : List ℕ) → k < length files
    → false ≡ bytes_eq (slice_index_or files k d).name.now name
    → ((i : ℕ) → i < k → slice_index_or (names files) i name ≢ name) → (i : ℕ) → i < k + 1 → slice_index_or (names files) i name ≢ name
none_then files k d name bound other first i below =
    elim (cases_Bool (nat_eq i k)) [
      | inl is ↦ subst (λ i. slice_index_or (names files) i name ≢ name) (at i k is)
          (λ same. not_from_Decides (bytes_eq (slice_index_or files k d).name.now name) (bytes_eq-Decides (slice_index_or files k d).name.now name) (sym other)
          (sym (name_there files k d name bound) ∙ same))
      | inr different ↦ first i (before i k below different)
    ]

-- what is published again and again, and once more under the same names
pub again_on : {F : Type 0} (gives : F → Option (List ℕ)) (ns ms : List (List ℕ)) (s t u : ServerState) → ms ≡ ns
    → ArePublishedAgain gives ns s t → ArePublishedAnew gives ms t u → ArePublishedAgain gives ns s u
again_on gives ns ms s t u same first then = again t u first (subst (λ xs. ArePublishedAnew gives xs t u) same then)
