-- The negative numbers that calls from C return: the reasons why a call gives no answer.
use Rattle.std.specs.Prelude.{ℤ, negsuc}
use Rattle.cog_client.specs.declared.error.ClientError as client
use Rattle.cog_client.specs.declared.error.ClientError.TheVariants as clients
use Rattle.cog_client.specs.declared.error.UrlError as url
use Rattle.cog_client.specs.declared.error.UrlError.TheVariants as urls
use Rattle.http_fields.specs.declared.request_fields.FieldError as field
use Rattle.http_fields.specs.declared.request_fields.FieldError.TheVariants as fields
use Rattle.delgunsai_c.specs.declared.failure.Failure.{Failure}
use Rattle.delgunsai_c.specs.declared.failure.Failure.TheVariants.{Host, Name, Blocks, Memory, NoClient, NoReport, OtherReport, Order, Authority, Target, FieldName, FieldReserved, FieldValue, FieldLines, FieldBytes}

-- -1 to -15
abbrev pub code_of : Failure → ℤ
code_of Host = negsuc 0
code_of Name = negsuc 1
code_of Blocks = negsuc 2
code_of Memory = negsuc 3
code_of NoClient = negsuc 4
code_of NoReport = negsuc 5
code_of OtherReport = negsuc 6
code_of Order = negsuc 7
code_of Authority = negsuc 8
code_of Target = negsuc 9
code_of FieldName = negsuc 10
code_of FieldReserved = negsuc 11
code_of FieldValue = negsuc 12
code_of FieldLines = negsuc 13
code_of FieldBytes = negsuc 14

-- why a client isn't made
abbrev pub failure_in : client.ClientError → Failure
failure_in clients.Host = Host
failure_in clients.Name = Name
failure_in clients.Blocks = Blocks
failure_in clients.Memory = Memory

-- why a client of a URL isn't made
abbrev pub failure_of_url : url.UrlError → Failure
failure_of_url urls.Authority = Authority
failure_of_url urls.Target = Target
failure_of_url urls.Blocks = Blocks
failure_of_url urls.Memory = Memory

-- why a field isn't added
abbrev pub failure_of_field : field.FieldError → Failure
failure_of_field fields.Name = FieldName
failure_of_field fields.Reserved = FieldReserved
failure_of_field fields.Value = FieldValue
failure_of_field fields.Lines = FieldLines
failure_of_field fields.Bytes = FieldBytes
failure_of_field fields.Memory = Memory
