pub mod BroughtAddressed
pub mod DeferredOrDoneRows
pub mod WakesBehindStep
pub mod WhatIsWoken
