-- The classes of a template as code has them.
use Rattle.link_model.specs.LinkFaults.{Listing as OneListing}
use Rattle.linker_faults.specs.declared.listing.Listing.{Listing}

-- the class with its file
abbrev pub shown : Listing → OneListing
shown x = record { place = x.place; name = x.name; file = x.file.now }
