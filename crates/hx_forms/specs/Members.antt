-- What contracts see of an object that is read.
use Rattle.serde_json.specs.Data.{Members}
use Rattle.serde_json.specs.View.{members_view}
use Rattle.hx_forms.specs.declared.objects.Object.{Object}

abbrev pub members_of : Object → Members
members_of o = members_view o.members.now.entries
