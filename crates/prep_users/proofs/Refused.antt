-- Why a configuration wants no users, in the realm that is said or its own.
use Rattle.std.proofs.Common.{◌≡◌, ℕ, List, Option, Some}
use Rattle.prep_coturn.specs.declared.rows.Row.{Row}
use Rattle.prep_users.specs.declared.fault.ConfiguredFault.TheVariants as lines
use Rattle.prep_users.specs.declared.fault.UsersFault.{UsersFault}
use Rattle.prep_users.specs.declared.fault.UsersFault.TheVariants as faults
use Rattle.prep_users.specs.Wanting.{IsRefused, RefusesIn, realm_for}

-- the fault of a realm's users is one of the lines
pub in_realm : (rows : List Row) (said : Option (List ℕ)) (realm : List ℕ) (fault : UsersFault) → realm_for said rows ≡ Some realm → RefusesIn rows realm fault → IsRefused rows said fault
in_realm rows said realm (faults.NoUsers line setting) found refuses = absurd refuses
in_realm rows said realm faults.NoRealm found refuses = absurd refuses
in_realm rows said realm (faults.Database line database) found refuses = (realm, found, refuses)
in_realm rows said realm (faults.SecretInDatabase line) found refuses = (realm, found, refuses)
in_realm rows said realm (faults.Configured (lines.NoColon line)) found refuses = (realm, found, refuses)
in_realm rows said realm (faults.Configured (lines.Hashed line name)) found refuses = (realm, found, refuses)
in_realm rows said realm (faults.Configured (lines.NotPrintable line)) found refuses = (realm, found, refuses)
in_realm rows said realm (faults.Configured lines.Memory) found refuses = refuses
in_realm rows said realm faults.Nobody found refuses = (realm, found, refuses)
