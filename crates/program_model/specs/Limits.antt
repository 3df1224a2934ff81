-- The limits of a system, each named once. Those of domains, services, objects, granules and the journal are functions of the system.
use Rattle.std.specs.Prelude.{ℕ}
use Rattle.jx_base.specs.declared.program.System.{System}

-- the domains that are ever made
unfoldable pub domain_limit : System → ℕ
domain_limit s = 64

-- the services that are ever exported
unfoldable pub service_limit : System → ℕ
service_limit s = 256

-- the memory objects that are ever made
unfoldable pub object_limit : System → ℕ
object_limit s = 65536

-- the bytes of an allocation
unfoldable pub allocation_limit : ℕ
allocation_limit = 1048576

-- the granules of the machine's memory
unfoldable pub granule_limit : System → ℕ
granule_limit s = s.plan.granules

-- the bytes of a granule
unfoldable pub granule_bytes : ℕ
granule_bytes = 64

-- the heap cells of a granule
unfoldable pub granule_cells : ℕ
granule_cells = 8

-- the words of the journal
unfoldable pub journal_limit : System → ℕ
journal_limit s = s.plan.journal

-- the words that an entry costs at most
unfoldable pub entry_limit : System → ℕ
entry_limit s = 4104

-- the threads of a service
unfoldable pub thread_limit : ℕ
thread_limit = 8

-- the units of a text
unfoldable pub text_limit : ℕ
text_limit = 4096

-- the units of a service's name
unfoldable pub name_limit : ℕ
name_limit = 255

-- the nodes of a parcel
unfoldable pub node_limit : ℕ
node_limit = 1024

-- the words of a parcel
unfoldable pub parcel_limit : ℕ
parcel_limit = 4096

-- what a computed case opens
unfoldable pub opened_limits : Unit {0}
unfolding domain_limit service_limit object_limit allocation_limit granule_limit granule_bytes granule_cells journal_limit entry_limit thread_limit text_limit name_limit node_limit parcel_limit
opened_limits = tt
