-- Which servers are known, where a flag is raised, a pull lowers flags, or one more server is named.
use Rattle.std.proofs.Common.{◌≡◌, ℕ, Bool, true, false, cond, List, [], ◌∷◌, ◌++◌, map, refl, ap, sym, ◌∙◌}
use Rattle.std.specs.Str.{bytes_eq}
use Rattle.std.proofs.lemmas.List.Folds.{list_any-append}
use Rattle.workbook.specs.Pulling.{is_named, pulled_servers}
use Rattle.workbook.specs.State.{KnownServer}
use Rattle.workbook.specs.Step.{servers_with_flag}
use Rattle.workbook.proofs.PublicLaws.{or_false}

-- the names of servers
abbrev pub names_of : List KnownServer → List (List ℕ)
names_of servers = map (λ (server : KnownServer). server.name) servers

name_kept : (server : KnownServer) (b : Bool) → (let next : KnownServer = cond b (record server { flag = true }) server in next.name) ≡ server.name
name_kept server true = refl
name_kept server false = refl

-- a raised flag changes no name
pub names_with_flag : (servers : List KnownServer) (name : List ℕ) → names_of (servers_with_flag servers name) ≡ names_of servers
names_with_flag [] name = refl
names_with_flag (server ∷ servers) name =
    ap (λ first. first ∷ names_of (servers_with_flag servers name)) (name_kept server (bytes_eq name server.name))
    ∙ ap (λ names. server.name ∷ names) (names_with_flag servers name)

-- nor does a pull
pub names_pulled : (servers : List KnownServer) (failed : List (List ℕ)) → names_of (pulled_servers servers failed) ≡ names_of servers
names_pulled [] failed = refl
names_pulled (server ∷ servers) failed = ap (λ names. server.name ∷ names) (names_pulled servers failed)

-- with one more server
names_with_one : (servers : List KnownServer) (server : KnownServer) → names_of (servers ++ server ∷ []) ≡ names_of servers ++ server.name ∷ []
names_with_one [] server = refl
names_with_one (first ∷ servers) server = ap (λ names. first.name ∷ names) (names_with_one servers server)

-- what isn't known beside one more server wasn't known before
pub known_before : (servers : List KnownServer) (server : KnownServer) (name : List ℕ) → is_named (names_of (servers ++ server ∷ [])) name ≡ false → is_named (names_of servers) name ≡ false
known_before servers server name h =
    (or_false (is_named (names_of servers) name) (is_named (server.name ∷ []) name)
    (sym (ap (λ names. is_named names name) (names_with_one servers server) ∙ list_any-append (bytes_eq name) (names_of servers) (server.name ∷ [])) ∙ h)).0
