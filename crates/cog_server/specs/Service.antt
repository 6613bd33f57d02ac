-- What answers are made from, as the code has it.
use Rattle.std.specs.Prelude.{option_copied}
use Rattle.cog_server.specs.declared.additions.Additions.{Additions}
use Rattle.cog_server.specs.declared.service.Service.{Service}
use Rattle.cog_server.specs.Additions.{AddedState, ServiceState}

abbrev pub added_of : Additions → AddedState
added_of a = record { origin = option_copied a.origin; announces_last = a.announces_last }

abbrev pub service_of : Service → ServiceState
service_of s = record { catalogue = s.server.now.catalogue; added = added_of s.additions }
