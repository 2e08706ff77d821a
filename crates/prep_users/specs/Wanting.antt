-- The users of a configuration.
use Rattle.std.specs.Prelude.{◌≡◌, ℕ, List, [], ◌∷◌, Option, Some, None, All, Any, codes, find, if◌then◌else◌}
use Rattle.std.specs.Str.{bytes_eq}
use Rattle.std.specs.List.{flat_map}
use Rattle.prep_coturn.specs.declared.rows.Row.{Row}
use Rattle.prep_coturn.specs.Rows.{is_on}
use Rattle.prep_users.specs.declared.claim.Secret.{Secret}
use Rattle.prep_users.specs.declared.fault.ConfiguredFault.TheVariants.{Memory}
use Rattle.prep_users.specs.declared.fault.UsersFault.{UsersFault}
use Rattle.prep_users.specs.declared.fault.UsersFault.TheVariants as faults
use Rattle.prep_users.specs.declared.reading.Wanted.{Wanted}
use Rattle.prep_users.specs.declared.reading.Wanted.TheVariants.{Named, Signed}
use Rattle.prep_users.specs.declared.settings.Database.{Database}
use Rattle.prep_users.specs.declared.settings.Database.TheVariants.{Sqlite, Postgres, Mysql, Mongo, Redis}
use Rattle.prep_users.specs.declared.settings.NoUsers.{NoUsers}
use Rattle.prep_users.specs.declared.settings.NoUsers.TheVariants.{NoAuth, Oauth}
use Rattle.prep_users.specs.Configured.{accounts_of, Refuses}

abbrev pub no_users_name : NoUsers → List ℕ
no_users_name NoAuth = codes "no-auth"
no_users_name Oauth = codes "oauth"

abbrev pub database_name : Database → List ℕ
database_name Sqlite = codes "userdb"
database_name Postgres = codes "psql-userdb"
database_name Mysql = codes "mysql-userdb"
database_name Mongo = codes "mongo-userdb"
database_name Redis = codes "redis-userdb"

-- the last value of a setting, or this one
abbrev pub last_with : List ℕ → Option (List ℕ) → List Row → Option (List ℕ)
last_with name value [] = value
last_with name value (row ∷ rows) = last_with name (if bytes_eq row.name.now name then Some row.value.now else value) rows

-- the line of a switch that is set last, if that switches it on
abbrev pub switched_with : List ℕ → Option ℕ → List Row → Option ℕ
switched_with name on [] = on
switched_with name on (row ∷ rows) = switched_with name (if bytes_eq row.name.now name then (if is_on row.value.now then Some row.line else None) else on) rows

abbrev pub switched_on : List ℕ → List Row → Option ℕ
switched_on name rows = switched_with name None rows

-- the realm of the option, or else of the configuration
abbrev pub realm_for : Option (List ℕ) → List Row → Option (List ℕ)
realm_for None rows = last_with (codes "realm") None rows
realm_for (Some realm) rows = Some realm

abbrev pub secrets_at : Row → List Secret
secrets_at row = if bytes_eq row.name.now (codes "static-auth-secret") then record { bytes = row.value.now } ∷ [] else []

-- the secrets of lines
abbrev pub secrets_of : List Row → List Secret
secrets_of rows = flat_map secrets_at rows

-- the database whose setting has this name
abbrev pub database_of : List ℕ → Option Database
database_of name = find (λ database. bytes_eq (database_name database) name) (Sqlite ∷ Postgres ∷ Mysql ∷ Mongo ∷ Redis ∷ [])

abbrev pub IsOfDatabase : ℕ → Database → Row → Type 0
IsOfDatabase line database row = (row.line ≡ line) × (database_of row.name.now ≡ Some database)

-- no line has users in a database
abbrev pub AreUsersHere : List Row → Type 0
AreUsersHere rows = (switched_on (codes "use-auth-secret") rows ≡ None) × All (λ row. database_of row.name.now ≡ None) rows

-- no setting leaves the server without users
abbrev pub AreJudged : List Row → Type 0
AreJudged rows = All (λ setting. switched_on (no_users_name setting) rows ≡ None) (NoAuth ∷ Oauth ∷ [])

-- without a secret the users that the lines name, in order; with secrets those of the realm
abbrev pub IsOf : List Row → List ℕ → Wanted → Type 0
IsOf rows realm (Named accounts) = (secrets_of rows ≡ []) × AreUsersHere rows × (accounts.items ≡ flat_map (accounts_of realm) rows)
IsOf rows realm (Signed secrets of) = (secrets.items ≡ secrets_of rows) × (of ≡ realm)

abbrev pub IsWanted : List Row → Option (List ℕ) → Wanted → Type 0
IsWanted rows said wanted = AreJudged rows × (realm : List ℕ) × (realm_for said rows ≡ Some realm) × IsOf rows realm wanted

-- why the lines have no users in a realm
abbrev pub RefusesIn : List Row → List ℕ → UsersFault → Type 0
RefusesIn rows realm (faults.Database line database) = (secrets_of rows ≡ []) × Any (IsOfDatabase line database) rows
RefusesIn rows realm (faults.SecretInDatabase line) = (secrets_of rows ≡ []) × (switched_on (codes "use-auth-secret") rows ≡ Some line)
RefusesIn rows realm (faults.Configured Memory) = Unit {0}
RefusesIn rows realm (faults.Configured fault) = (secrets_of rows ≡ []) × Any (Refuses fault realm) rows
RefusesIn rows realm faults.Nobody = (secrets_of rows ≡ []) × (flat_map (accounts_of realm) rows ≡ [])
RefusesIn rows realm other = ⊥

abbrev pub IsRefused : List Row → Option (List ℕ) → UsersFault → Type 0
IsRefused rows said (faults.NoUsers line setting) = switched_on (no_users_name setting) rows ≡ Some line
IsRefused rows said faults.NoRealm = realm_for said rows ≡ None
IsRefused rows said (faults.Configured Memory) = Unit {0}
IsRefused rows said fault = (realm : List ℕ) × (realm_for said rows ≡ Some realm) × RefusesIn rows realm fault
