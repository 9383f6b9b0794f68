-- By the lemmas of that law.
use Rattle.sct_site.proofs.SiteLemmas.{site_joined, site_opened, site_taken}
use Rattle.sct_site.proofs.laws.sites_stay_sites.Goals as goal

pub returns-clause-opened : goal.returns-clause-opened
returns-clause-opened c = site_opened

pub returns-clause-taken : goal.returns-clause-taken
returns-clause-taken c = site_taken

pub returns-clause-joined : goal.returns-clause-joined
returns-clause-joined c = site_joined
