-- The numbers of sites. Read by an auditor.
use Rattle.std.specs.Prelude.{ℕ, ◌&&◌, Bool, nat_le}

-- the greatest number that a site may have
abbrev pub most_sites : ℕ
most_sites = 1024

-- sites are numbered from 1
abbrev pub is_site : ℕ → Bool
is_site origin = nat_le 1 origin && nat_le origin most_sites

-- a group has the sites numbered from 1 to its size
abbrev pub is_group : ℕ → Bool
is_group size = nat_le 1 size && nat_le size most_sites

-- the greatest number that a site may have in form 1 of the delta text
abbrev pub most_sites_of_form_1 : ℕ
most_sites_of_form_1 = 64

-- a site that form 1 of the delta text has
abbrev pub is_site_of_form_1 : ℕ → Bool
is_site_of_form_1 origin = nat_le 1 origin && nat_le origin most_sites_of_form_1
