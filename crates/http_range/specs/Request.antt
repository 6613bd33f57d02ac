-- The head of a request, as the code keeps it.
use Rattle.http_range.specs.declared.request.Request.TheInside.{Inside}
use Rattle.http_range.specs.Seen.{SeenRequest}

abbrev pub request_view : Inside → SeenRequest
request_view r = record { method = r.method.now; target = r.target.now; minor = r.minor; fields = r.fields }
