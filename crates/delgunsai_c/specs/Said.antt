-- What is said of an answer, in numbers.
use Rattle.cog_client.specs.declared.delivered.Current.{Current}
use Rattle.cog_client.specs.declared.delivered.Current.TheVariants.{Same, Other, Unknown}
use Rattle.cog_client.specs.declared.delivered.Delivered.{Delivered}
use Rattle.cog_client.specs.declared.delivered.Delivered.TheVariants.{Took, Restarted, Ignored}
use Rattle.cog_client.specs.Check.{number_of_unknown}
use Rattle.cog_client.specs.Take.{number_of_ignored}
use Rattle.delgunsai_c.specs.declared.said.Said.{Said}

abbrev pub said_of_delivered : Delivered → Said
said_of_delivered (Took blocks) = record { kind = 1; number = blocks }
said_of_delivered Restarted = record { kind = 2; number = 0 }
said_of_delivered (Ignored why) = record { kind = 3; number = number_of_ignored why }

abbrev pub said_of_current : Current → Said
said_of_current Same = record { kind = 1; number = 0 }
said_of_current Other = record { kind = 2; number = 0 }
said_of_current (Unknown why) = record { kind = 3; number = number_of_unknown why }
