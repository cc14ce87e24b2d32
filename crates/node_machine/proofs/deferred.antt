pub mod AllCalled
pub mod CalledDeferredAgain
pub mod FirstCalled
pub mod FirstCalledFound
pub mod KeyOrder
pub mod PlacesAddedTaken
pub mod PlacesOfKey
pub mod PlacesStayRight
