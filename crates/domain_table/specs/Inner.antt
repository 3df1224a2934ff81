-- How a table of domains keeps its lists.
use Rattle.std.specs.Prelude.{◌≡◌, ◌+◌, ◌*◌, ◌≤◌, ℕ, [], length, map, take, drop, vec_capacity}
use Rattle.std.specs.List.{AllByRecursion}
use Rattle.domain_table.specs.declared.domains.Domains.TheInside.{Inside}
use Rattle.domain_table.specs.DomainLists.{DomainsState, ThreadsState}

-- what it is seen as: the threads of the domains that were made
abbrev pub domains_state : Inside → DomainsState
domains_state x =
    record {
      domains = x.domains.items;
      threads = map (λ t. t.records) (take (length x.domains.items) x.threads.items);
      services = x.services;
      limit = x.limit;
    }

-- a list of threads has room for those of all services, and no more than those that were given
pub record HasRoom (services : ℕ) (x : ThreadsState) : Type 0 where
  pub room : x.room ≡ 2049
  pub count : length x.records ≤ 1 + 8 * services

-- each number of a domain has its list, empty while it isn't made
pub record IsDomains (x : Inside) : Type 0 where
  pub small : x.limit ≤ 64
  pub made : length x.domains.items ≤ x.limit
  pub capacity : x.limit ≤ vec_capacity x.domains
  pub lists : length x.threads.items ≡ x.limit
  pub services : x.services ≤ 256
  pub rooms : AllByRecursion (HasRoom x.services) x.threads.items
  pub empty : AllByRecursion (λ t. t.records ≡ []) (drop (length x.domains.items) x.threads.items)
